-- Laws of MIME types.
use Rattle.std.specs.Prelude.{◌≡◌, ◌↔◌, ◌+◌, ◌++◌, ℕ, All, List, [], ◌∷◌, Option, codes, if◌then◌else◌, length}
use Rattle.mime_types.specs.Extracted.{IsExtracted, said}
use Rattle.mime_types.specs.Groups.{Is}
use Rattle.mime_types.specs.Mime.{Mime}
use Rattle.mime_types.specs.Nosniff.{IsNosniff, ends_piece, next_place}
use Rattle.mime_types.specs.Parse.{Parsed}
use Rattle.mime_types.specs.Pieces.{pieces}
use Rattle.mime_types.specs.Serialize.{serialize}
use Rattle.mime_types.specs.Text.{lower, trim}
use Rattle.mime_types.specs.declared.extraction.Extracted.{Extracted}
use Rattle.mime_types.specs.declared.nosniff.Place.{Place}
use Rattle.mime_types.specs.declared.nosniff.Place.TheVariants.{Outside}

-- a text says one MIME type at most
abbrev pub SaysOne : Type 0
SaysOne = (t : List ℕ) (m n : Mime) → Parsed t m → Parsed t n → m ≡ n

-- what a text says, its own text says
abbrev pub SaysItself : Type 0
SaysItself = (t : List ℕ) (m : Mime) → Parsed t m → Parsed (serialize m) m

-- no white space stands at either end of it
abbrev pub IsTrimmed : Type 0
IsTrimmed = (t : List ℕ) (m : Mime) → Parsed t m → trim (serialize m) ≡ serialize m

-- the commas outside of quotes, of what begins there
abbrev pub commas : Place → List ℕ → ℕ
commas place [] = 0
commas place (x ∷ s) = if ends_piece place x then 1 + commas Outside s else commas (next_place place x) s

-- a value has one piece more than such commas
abbrev pub HasPieces : Type 0
HasPieces = (value : List ℕ) → length (pieces value) ≡ commas Outside value + 1

-- the first of these pieces is "nosniff" in any ASCII case
abbrev pub BeginsNosniff : List (List ℕ) → Type 0
BeginsNosniff [] = ⊥
BeginsNosniff (p ∷ ps) = lower p ≡ codes "nosniff"

-- an empty last piece may be left out: the others say the same types, and forbid to sniff if all of them do
abbrev pub LeavesLastOut : Type 0
LeavesLastOut = (value : List ℕ) (ps : List (List ℕ)) → pieces value ≡ ps ++ [] ∷ []
    → (said ps ≡ said (pieces value)) × (IsNosniff value ↔ BeginsNosniff ps)

-- no piece says "*/*"
abbrev pub SaysNoStars : Type 0
SaysNoStars = (ps : List (List ℕ)) → All (λ m. ¬ Is (codes "*") (codes "*") m.kind) (said ps)

-- white space at the ends of a value says nothing
abbrev pub EndsSayNothing : Type 0
EndsSayNothing = (value : List ℕ) (found : Option Extracted) → IsExtracted (trim value) found ↔ IsExtracted value found

-- the values of several headers as one: each without white space at its ends, with ", " between them
abbrev pub combined : List (List ℕ) → List ℕ
combined [] = []
combined (value ∷ []) = trim value
combined (value ∷ next ∷ values) = trim value ++ codes ", " ++ combined (next ∷ values)

-- what several values say, the one that is made of them says alone
abbrev pub CombinesOnce : Type 0
CombinesOnce =
    (values : List (List ℕ)) (found : Option Extracted) → IsExtracted (combined (combined values ∷ [])) found ↔ IsExtracted (combined values) found
