-- Signatures as a text describes them: fixed bytes, or a relation.
use Rattle.std.specs.Prelude.{◌||◌, ℕ, Bool, false, List, [], ◌∷◌, Option, map, option_map, if◌then◌else◌}
use Rattle.std.specs.Int.{is_in_range}
use Rattle.infer_notation.specs.Alternative.{Alternative, binary_bytes, bytes}
use Rattle.infer_notation.specs.Fixed.{Asked, alternatives_of}
use Rattle.infer_notation.specs.Relations.{relations_of}
use Rattle.infer_notation.specs.Words.{after_blanks}

-- the name of a relation begins with a letter, and fixed bytes with a number
abbrev pub begins_relation : List ℕ → Bool
begins_relation [] = false
begins_relation (x ∷ xs) = is_in_range 0x41 0x5A x || is_in_range 0x61 0x7A x

-- an alternative of fixed bytes as that of a further row
abbrev pub described : Asked → Alternative
described a = if a.binary then binary_bytes a.bytes else bytes a.bytes

-- the alternatives that the text describes
unfoldable pub signature_of : List ℕ → Option (List Alternative)
signature_of t = if begins_relation (after_blanks t) then relations_of t else option_map (map described) (alternatives_of t)
