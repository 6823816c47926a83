-- The pieces of a header's value, between its commas.
use denote.Ref.{Bor}
use Rattle.std.specs.Prelude.{◌≡◌, ℕ, ◌+◌, ◌<◌, List, [], ◌∷◌, ◌++◌, Option, None, Some, drop, if◌then◌else◌, length}
use Rattle.mime_types.specs.Nosniff.{ends_piece, next_place, trim_blanks}
use Rattle.mime_types.specs.declared.nosniff.Place.{Place}
use Rattle.mime_types.specs.declared.nosniff.Place.TheVariants.{Outside}
use Rattle.mime_types.specs.declared.pieces.Pieces.{Pieces}

-- the pieces of what stands after the beginning of one. A comma outside of quotes ends a piece
abbrev pub pieces_from : Place → List ℕ → List ℕ → List (List ℕ)
pieces_from place piece [] = trim_blanks piece ∷ []
pieces_from place piece (x ∷ s) =
    if ends_piece place x then trim_blanks piece ∷ pieces_from Outside [] s else pieces_from (next_place place x) (piece ++ x ∷ []) s

-- those of a value: one more than such commas, each without tabs and blanks at both ends
unfoldable pub pieces : List ℕ → List (List ℕ)
pieces value = pieces_from Outside [] value

abbrev pub pieces_of : Option (Bor (List ℕ)) → List (List ℕ)
pieces_of None = []
pieces_of (Some value) = pieces value.now

-- those that are left
abbrev pub pieces_left : Pieces → List (List ℕ)
pieces_left p = pieces_of p.rest

-- what stands after a place, and nothing after the end
abbrev pub IsAfter : List ℕ → ℕ → Option (Bor (List ℕ)) → Type 0
IsAfter value place None = place ≡ length value
IsAfter value place (Some rest) = (place < length value) × (rest.now ≡ drop (place + 1) value)
