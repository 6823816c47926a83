-- Parts of digits, looked at from a place on.
use Rattle.std.specs.Prelude.{◌-◌, ℕ, Bool, List, drop, get_or, not}
use Rattle.infer_named.specs.Names.{are_parts, is_digit}

-- whether what stands from a place on are such parts, where a digit is due if none stands before
abbrev pub are_parts_from : List ℕ → ℕ → Bool
are_parts_from text from = are_parts (not (is_digit (get_or text (from - 1) 0))) (drop from text)
