-- No byte that is printed of a name is a control.
use lib.Utf8.{encode}
use borrow.Author.Tests.{ltb-false}
use Rattle.std.proofs.Common.{◌≡◌, ◌<◌, ◌≤◌, ◌+◌, ◌||◌, ◌/◌, ◌%◌, ◌∷◌, ◌++◌, ℕ, Bool, true, false, List, [], arith, cond, ltb, refl, subst, if◌then◌else◌}
use Rattle.std.specs.Int.{is_in_range}
use Rattle.std.specs.List.{AllByRecursion, flat_map}
use Rattle.std.specs.Prelude.{nat_le, nat_lt}
use Rattle.std.specs.Str.{chars, is_utf8}
use Rattle.infer_label.specs.Names.{IsSeen, before_mark, byte_shown, char_shown, code_shown, hex_digit, high_shown, is_escaped, is_mark, is_obeyed, is_tag, is_unseen, name_shown, unseen_shown}
use Rattle.infer_label.specs.declared.options.Form.{Form}
use Rattle.infer_label.specs.declared.options.Form.TheVariants.{Csv, Json, Mime, Text}

abbrev AreSeen : List ℕ → Type 0
AreSeen xs = AllByRecursion IsSeen xs

both_seen : (xs ys : List ℕ) → AreSeen xs → AreSeen ys → AreSeen (xs ++ ys)
both_seen [] ys first last = last
both_seen (x ∷ xs) ys (this, others) last = (this, both_seen xs ys others last)

each_seen : (f : ℕ → List ℕ) → ((x : ℕ) → AreSeen (f x)) → (xs : List ℕ) → AreSeen (flat_map f xs)
each_seen f seen [] = tt
each_seen f seen (x ∷ xs) = both_seen (f x) (flat_map f xs) (seen x) (each_seen f seen xs)

one_of : (b : Bool) (xs ys : List ℕ) → AreSeen xs → AreSeen ys → AreSeen (if b then xs else ys)
one_of true xs ys first second = first
one_of false xs ys first second = second

digit_by : (b : Bool) (n : ℕ) → n < 16 → IsSeen (if b then 0x30 + n else 0x57 + n)
digit_by true n low = (omega arith, λ e. absurd (omega arith))
digit_by false n low = (omega arith, λ e. absurd (omega arith))

digit_seen : (n : ℕ) → IsSeen (hex_digit (n % 16))
digit_seen n = digit_by (nat_lt (n % 16) 10) (n % 16) (omega arith)

slash_seen : IsSeen 0x5C
slash_seen = (omega arith, λ e. absurd (omega arith))

code_seen : (c : ℕ) → AreSeen (code_shown c)
code_seen c = (slash_seen, ((omega arith, λ e. absurd (omega arith)), (digit_seen (c / 4096), (digit_seen (c / 256), (digit_seen (c / 16), (digit_seen c, tt))))))

high_seen : (form : Form) (x : ℕ) → AreSeen (high_shown form x)
high_seen Text x = (slash_seen, ((omega arith, λ e. absurd (omega arith)), (digit_seen (x / 16), (digit_seen x, tt))))
high_seen Mime x = (slash_seen, ((omega arith, λ e. absurd (omega arith)), (digit_seen (x / 16), (digit_seen x, tt))))
high_seen Csv x = (slash_seen, ((omega arith, λ e. absurd (omega arith)), (digit_seen (x / 16), (digit_seen x, tt))))
high_seen Json x = code_seen x

unseen_seen : (c : ℕ) → AreSeen (unseen_shown c)
unseen_seen c = one_of (is_tag c) (code_shown 0xDB40 ++ code_shown (0xDC00 + c % 1024)) (code_shown c)
    (both_seen (code_shown 0xDB40) (code_shown (0xDC00 + c % 1024)) (code_seen 0xDB40) (code_seen (0xDC00 + c % 1024))) (code_seen c)

large : (n : ℕ) → 128 ≤ n → IsSeen n
large n high = (omega arith, λ e. absurd (omega arith))

bytes_seen : (a b d : Bool) (c n m k : ℕ) → IsSeen c
    → AreSeen (cond a (c ∷ []) (cond b ((192 + n) ∷ (128 + c % 64) ∷ []) (cond d ((224 + m) ∷ (128 + n % 64) ∷ (128 + c % 64) ∷ []) ((240 + k) ∷ (128 + m % 64) ∷ (128 + n % 64) ∷ (128 + c % 64) ∷ []))))
bytes_seen true b d c n m k seen = (seen, tt)
bytes_seen false true d c n m k seen = (large _ (omega arith), (large _ (omega arith), tt))
bytes_seen false false true c n m k seen = (large _ (omega arith), (large _ (omega arith), (large _ (omega arith), tt)))
bytes_seen false false false c n m k seen = (large _ (omega arith), (large _ (omega arith), (large _ (omega arith), (large _ (omega arith), tt))))

encoded_seen : (c : ℕ) → IsSeen c → AreSeen (encode c)
unfolding encode
encoded_seen c seen = bytes_seen (ltb c 128) (ltb c 2048) (ltb c 65536) c (c / 64) (c / 4096) (c / 262144) seen

neither : (a b : Bool) → (a || b) ≡ false → (a ≡ false) × (b ≡ false)
neither false b is = (refl, is)
neither true b is = absurd (cc)

-- what is not obeyed is no control
not_obeyed : (c : ℕ) → is_obeyed c ≡ false → IsSeen c
not_obeyed c is =
    let (not_low, others) = neither (nat_lt c 0x20) _ is in
    let (not_high, more) = neither (is_in_range 0x7F 0x9F c) _ others in
    let low : 0x20 ≤ c = ltb-false c 0x20 not_low in
    (low, λ e. let wrong : true ≡ false = subst (λ x. is_in_range 0x7F 0x9F x ≡ false) e not_high in absurd (cc))

not_escaped : (c : ℕ) → is_escaped c ≡ false → IsSeen c
not_escaped c is = not_obeyed c (neither (is_obeyed c) (is_unseen c) is).0

before_seen : (form : Form) (c : ℕ) → IsSeen c → IsSeen (before_mark form c)
before_seen Text c seen = slash_seen
before_seen Mime c seen = slash_seen
before_seen Json c seen = slash_seen
before_seen Csv c seen = seen

char_by : (form : Form) (escaped mark : Bool) (c : ℕ) → (escaped ≡ false → IsSeen c)
    → AreSeen (if escaped then unseen_shown c else (if mark then before_mark form c ∷ encode c else encode c))
char_by form true mark c seen = unseen_seen c
char_by form false true c seen = (before_seen form c (seen refl), encoded_seen c (seen refl))
char_by form false false c seen = encoded_seen c (seen refl)

char_seen : (form : Form) (c : ℕ) → AreSeen (char_shown form c)
char_seen form c = char_by form (is_escaped c) (is_mark form c) c (not_escaped c)

byte_seen : (form : Form) (x : ℕ) → AreSeen (byte_shown form x)
byte_seen form x = one_of (nat_le 0x80 x) (high_shown form x) (char_shown form x) (high_seen form x) (char_seen form x)

pub name_seen : (form : Form) (name : List ℕ) → AreSeen (name_shown form name)
name_seen form name =
    one_of (is_utf8 name) (flat_map (char_shown form) (chars name)) (flat_map (byte_shown form) name)
    (each_seen (char_shown form) (char_seen form) (chars name)) (each_seen (byte_shown form) (byte_seen form) name)
