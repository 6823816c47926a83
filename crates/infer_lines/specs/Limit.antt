-- A run whose limit is chosen.
use Rattle.std.specs.Prelude.{◌≡◌, ◌≤◌, ◌&&◌, ◌∷◌, ℕ, Bool, false, List, [], Option, None, Some, if◌then◌else◌, nat_le, nat_lt}
use Rattle.std.specs.Char.{digit_value}
use Rattle.std.specs.List.{list_all}
use Rattle.std.specs.Str.Parse.{IsNumeral, digits_value}

-- the text is one decimal digit or more, whose value is n, from 1 to 65536
pub record IsLimit (text : List ℕ) (n : ℕ) : Type 0 where
  pub digits : IsNumeral 10 text
  pub value : digits_value 10 text ≡ n
  pub least : 1 ≤ n
  pub most : n ≤ 65536

-- whether a byte is a decimal digit, and whether a text is one of them or more
abbrev pub is_decimal : ℕ → Bool
is_decimal c = nat_lt (digit_value c) 10

abbrev pub is_numeral : List ℕ → Bool
is_numeral [] = false
is_numeral (c ∷ cs) = list_all is_decimal (c ∷ cs)

-- the limit that a text is, if it is one
abbrev pub limit_in : List ℕ → Option ℕ
limit_in text = if is_numeral text && (nat_le 1 (digits_value 10 text) && nat_le (digits_value 10 text) 65536) then Some (digits_value 10 text) else None
