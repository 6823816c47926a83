-- The limit that a text is.
use borrow.Author.Tests.{leb-true, ltb-true}
use Rattle.std.proofs.Common.{◌≡◌, ◌<◌, ◌≤◌, ◌&&◌, ℕ, Bool, true, false, List, [], ◌∷◌, Option, None, Some, MatchOption, arith, refl, subst, sym, tests, if◌then◌else◌}
use Rattle.std.specs.Prelude.{nat_le}
use Rattle.std.specs.Char.{digit_value}
use Rattle.std.specs.List.{list_all}
use Rattle.std.specs.Str.{IsAscii, IsUtf8}
use Rattle.std.specs.Str.Parse.{AllDigits, IsNumeral, digits_value}
use Rattle.std.proofs.lemmas.Str.{IsUtf8-from_ascii}
use Rattle.std.proofs.lemmas.Str.Ascii.{IsAscii-cons, IsAscii-nil}
use Rattle.infer_lines.specs.Limit.{IsLimit, is_decimal, is_numeral, limit_in}

both : (a b : Bool) → (a && b) ≡ true → (a ≡ true) × (b ≡ true)
both true true is = (refl, refl)
both true false is = absurd (cc)
both false b is = absurd (cc)

all_digits : (text : List ℕ) → list_all is_decimal text ≡ true → AllDigits 10 text
all_digits [] is = tt
all_digits (c ∷ cs) is = let (this, others) = both (is_decimal c) (list_all is_decimal cs) is in (ltb-true (digit_value c) 10 this, all_digits cs others)

numeral : (text : List ℕ) → is_numeral text ≡ true → IsNumeral 10 text
numeral [] is = absurd (cc)
numeral (c ∷ cs) is = (omega arith, all_digits (c ∷ cs) is)

-- a decimal digit is of ASCII
digit_low : (c : ℕ) → digit_value c < 10 → c < 128
digit_low c low = grind (arith, tests)

digits_ascii : (text : List ℕ) → AllDigits 10 text → IsAscii text
digits_ascii [] all = IsAscii-nil
digits_ascii (c ∷ cs) (this, others) = IsAscii-cons c cs (digit_low c this) (digits_ascii cs others)

limited : (text : List ℕ) → (is_numeral text && (nat_le 1 (digits_value 10 text) && nat_le (digits_value 10 text) 65536)) ≡ true → IsLimit text (digits_value 10 text)
limited text is =
    let (digits, bounds) = both (is_numeral text) _ is in
    let (least, most) = both (nat_le 1 (digits_value 10 text)) _ bounds in
    record { digits = numeral text digits; value = refl; least = leb-true 1 (digits_value 10 text) least; most = leb-true (digits_value 10 text) 65536 most }

none_by : (test : Bool) (n : ℕ) → (test ≡ true → ⊥) → (if test then Some n else None) ≡ None
none_by true n not = absurd (not refl)
none_by false n not = refl

-- a text of which no number is the limit has none
pub limit_none : (text : List ℕ) → ((n : ℕ) → ¬ IsLimit text n) → None ≡ limit_in text
limit_none text never = sym (none_by _ (digits_value 10 text) (λ e. never (digits_value 10 text) (limited text e)))

-- a text with a limit is UTF-8
pub limit_utf8 : (text : List ℕ) (n : ℕ) → IsLimit text n → IsUtf8 text
limit_utf8 text n is = IsUtf8-from_ascii text (digits_ascii text is.digits.1)

is_digits : (text : List ℕ) → AllDigits 10 text → list_all is_decimal text ≡ true
is_digits [] all = refl
is_digits (c ∷ cs) (this, others) = grind (arith, tests, is_digits cs others)

is_number : (text : List ℕ) → IsNumeral 10 text → is_numeral text ≡ true
is_number [] (some, all) = absurd (omega arith)
is_number (c ∷ cs) (some, all) = is_digits (c ∷ cs) all

some_by : (a b d : Bool) (n : ℕ) → a ≡ true → b ≡ true → d ≡ true → (if a && (b && d) then Some n else None) ≡ Some n
some_by true true true n e f h = refl
some_by false b d n e f h = absurd (cc)
some_by true false d n e f h = absurd (cc)
some_by true true false n e f h = absurd (cc)

at_least : (n : ℕ) → 1 ≤ n → nat_le 1 n ≡ true
at_least n h = grind (arith, tests)

at_most : (n : ℕ) → n ≤ 65536 → nat_le n 65536 ≡ true
at_most n h = grind (arith, tests)

-- the limit of a text that has one
pub limit_some : (text : List ℕ) (n : ℕ) → IsLimit text n → Some n ≡ limit_in text
limit_some text n is =
    subst (λ v. Some v ≡ limit_in text) is.value
    (sym (some_by (is_numeral text) _ _ (digits_value 10 text) (is_number text is.digits)
    (at_least (digits_value 10 text) (subst (λ v. 1 ≤ v) (sym is.value) is.least)) (at_most (digits_value 10 text) (subst (λ v. v ≤ 65536) (sym is.value) is.most))))

pub limit_told : (text : List ℕ) (found : Option ℕ) → MatchOption found ((n : ℕ) → ¬ IsLimit text n) (λ n. IsLimit text n) → found ≡ limit_in text
limit_told text None never = limit_none text never
limit_told text (Some n) is = limit_some text n is
