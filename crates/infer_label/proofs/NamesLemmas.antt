-- What is printed of a name that is UTF-8, and of one that is not.
use borrow.Author.Tests.{ltb-true}
use Rattle.std.proofs.lemmas.Bool.{leb-true}
use Rattle.std.proofs.lemmas.Bool.Decides.{nat_tests}
use Rattle.std.proofs.Common.{arith, ◌≡◌, ◌<◌, ◌≤◌, ◌==◌, ◌&&◌, ◌||◌, ◌∙◌, ℕ, Bool, true, false, List, [], ◌∷◌, ◌++◌, ap, ap₂, encode_utf8, map, not, refl, sym, if◌then◌else◌}
use Rattle.std.specs.Prelude.{nat_le, nat_lt}
use Rattle.std.specs.List.{flat_map, list_all}
use Rattle.std.specs.Str.{IsAscii, IsUtf8, chars, is_utf8}
use Rattle.std.proofs.lemmas.Str.{IsUtf8-from_ascii, IsUtf8-from_is_utf8, chars-IsAscii, encode_ascii, is_utf8-from_IsUtf8}
use Rattle.std.proofs.lemmas.Str.Ascii.{IsAscii-cons, IsAscii-nil}
use Rattle.infer_label.specs.Line.{hex_member, name_member, utf8_member}
use Rattle.infer_label.specs.Names.{before_mark, byte_shown, char_shown, is_escaped, is_mark, is_obeyed, is_plain, is_unseen, name_shown, unseen_shown}
use Rattle.infer_label.specs.declared.options.Form.{Form}
use Rattle.infer_label.specs.declared.options.Form.TheVariants.{Csv, Json, Mime, Text}

pub map-id : (xs : List ℕ) → map (λ x. x) xs ≡ xs
map-id [] = refl
map-id (x ∷ xs) = ap (λ l. x ∷ l) (map-id xs)

is_false : (b : Bool) → (b ≡ true → ⊥) → b ≡ false
is_false true not = absurd (not refl)
is_false false not = refl

no_utf8 : (name : List ℕ) → (¬ IsUtf8 name) → is_utf8 name ≡ false
no_utf8 name not = is_false (is_utf8 name) (λ e. not (IsUtf8-from_is_utf8 name e))

chosen : (b : Bool) (xs ys : List ℕ) → b ≡ true → (if b then xs else ys) ≡ xs
chosen true xs ys is = refl
chosen false xs ys is = absurd (cc)

left_over : (b : Bool) (xs ys : List ℕ) → b ≡ false → (if b then xs else ys) ≡ ys
left_over true xs ys is = absurd (cc)
left_over false xs ys is = refl

pub name_of_chars : (form : Form) (name : List ℕ) → IsUtf8 name → name_shown form name ≡ flat_map (char_shown form) (chars name)
name_of_chars form name is = chosen (is_utf8 name) _ _ (is_utf8-from_IsUtf8 name is)

pub name_of_bytes : (form : Form) (name : List ℕ) → (¬ IsUtf8 name) → name_shown form name ≡ flat_map (byte_shown form) name
name_of_bytes form name not = left_over (is_utf8 name) _ _ (no_utf8 name not)

pub member_of_utf8 : (name : List ℕ) → IsUtf8 name → name_member name ≡ utf8_member name
member_of_utf8 name is = chosen (is_utf8 name) _ _ (is_utf8-from_IsUtf8 name is)

pub member_of_bytes : (name : List ℕ) → (¬ IsUtf8 name) → name_member name ≡ hex_member name
member_of_bytes name not = left_over (is_utf8 name) _ _ (no_utf8 name not)

both : (a b : Bool) → (a && b) ≡ true → (a ≡ true) × (b ≡ true)
both true true is = (refl, refl)
both true false is = absurd (cc)
both false b is = absurd (cc)

neither : (a b : Bool) → (a || b) ≡ false → a ≡ false
neither false b is = refl
neither true b is = absurd (cc)

denied : (a : Bool) → not a ≡ true → a ≡ false
denied true is = absurd (cc)
denied false is = refl

no_mark : (form : Form) (x : ℕ) → is_mark Json x ≡ false → is_mark form x ≡ false
no_mark Text x is = neither (x == 0x5C) (x == 0x22) is
no_mark Mime x is = neither (x == 0x5C) (x == 0x22) is
no_mark Csv x is = is
no_mark Json x is = is

char_itself : (escaped mark : Bool) (form : Form) (x : ℕ) → escaped ≡ false → mark ≡ false → x < 128
    → (if escaped then unseen_shown x else (if mark then before_mark form x ∷ encode_utf8 x else encode_utf8 x)) ≡ x ∷ []
char_itself true mark form x e f low = absurd (cc)
char_itself false true form x e f low = absurd (cc)
char_itself false false form x e f low = encode_ascii x low

not_obeyed : (x : ℕ) → 32 ≤ x → x < 127 → is_obeyed x ≡ false
not_obeyed x low high = grind (arith, nat_tests, low, high)

not_unseen : (x : ℕ) → x < 127 → is_unseen x ≡ false
not_unseen x high = grind (arith, nat_tests, high)

neither_both : (a b : Bool) → a ≡ false → b ≡ false → (a || b) ≡ false
neither_both true b first second = absurd (cc)
neither_both false b first second = second

-- a plain byte is no escape and no mark
plain_byte : (x : ℕ) → is_plain x ≡ true → (x < 128) × (is_escaped x ≡ false) × (is_mark Json x ≡ false)
plain_byte x is =
    let (range, marks) = both (nat_le 0x20 x && nat_lt x 0x7F) (not (x == 0x22) && not (x == 0x5C)) is in
    let (above, below) = both (nat_le 0x20 x) (nat_lt x 0x7F) range in
    let (quote, slash) = both (not (x == 0x22)) (not (x == 0x5C)) marks in
    let low : 32 ≤ x = leb-true 32 x above in
    let high : x < 127 = ltb-true x 127 below in (
      omega (arith, high),
      neither_both (is_obeyed x) (is_unseen x) (not_obeyed x low high) (not_unseen x high),
      neither_both (x == 0x5C) (x == 0x22) (denied (x == 0x5C) slash) (denied (x == 0x22) quote),
    )

-- plain bytes are of ASCII and stand for themselves
plain_bytes : (form : Form) (name : List ℕ) → list_all is_plain name ≡ true → (flat_map (char_shown form) name ≡ name) × IsAscii name
plain_bytes form [] is = (refl, IsAscii-nil)
plain_bytes form (x ∷ name) is =
    let (plain, others) = both (is_plain x) (list_all is_plain name) is in
    let (below, not_escaped, not_mark) = plain_byte x plain in
    let (same, ascii) = plain_bytes form name others in (
      ap₂ (λ a b. a ++ b) (char_itself (is_escaped x) (is_mark form x) form x not_escaped (no_mark form x not_mark) below) same,
      IsAscii-cons x name below ascii,
    )

pub name_of_plain : (form : Form) (name : List ℕ) → list_all is_plain name ≡ true → name ≡ name_shown form name
name_of_plain form name is =
    let (same, ascii) = plain_bytes form name is in
    sym (name_of_chars form name (IsUtf8-from_ascii name ascii) ∙ ap (flat_map (char_shown form)) (chars-IsAscii name ascii) ∙ same)
