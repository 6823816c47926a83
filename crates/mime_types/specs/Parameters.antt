-- The parameters that count, of those that are written.
use Rattle.std.specs.Prelude.{◌≡◌, ◌&&◌, Bool, List, [], ◌∷◌, ◌++◌, ℕ, IsTrue, Some, not, if◌then◌else◌}
use Rattle.std.specs.List.{list_all, list_any}
use Rattle.std.specs.Str.{bytes_eq}
use Rattle.mime_types.specs.Bytes.{is_quotable}
use Rattle.mime_types.specs.Mime.{Parameter}
use Rattle.mime_types.specs.Segment.{AsWritten, left_by, parameter_said, stands, written, written_by}
use Rattle.mime_types.specs.Text.{is_a_token}

-- the name is a token, and the value may stand in quotes
abbrev pub is_valid : Parameter → Bool
is_valid p = is_a_token p.name && list_all is_quotable p.value

-- a valid one, with that name
abbrev pub is_named : List ℕ → Parameter → Bool
is_named name p = is_valid p && bytes_eq p.name name

-- it is valid, and no valid one of these has its name
abbrev pub is_first : List Parameter → Parameter → Bool
is_first earlier p = is_valid p && not (list_any (is_named p.name) earlier)

-- of those that are written after others, the first valid one of each name
unfoldable pub kept : List Parameter → List Parameter → List Parameter
kept earlier [] = []
kept earlier (p ∷ ps) =
    if is_first earlier p then p ∷ kept (earlier ++ p ∷ []) ps else kept (earlier ++ p ∷ []) ps

-- the parameters of what stands after a subtype
abbrev pub parameters : List ℕ → List Parameter
parameters tail = kept [] (written tail)

-- one stands in this text, after so many segments, and is the first valid one of its name
abbrev pub StandsFirst : List ℕ → AsWritten → Type 0
StandsFirst tail p = (n : ℕ) × ((stands (left_by n tail)).parameter ≡ Some p) × IsTrue (is_first (written_by n tail) (parameter_said p))
