-- The text of a MIME type.
use Rattle.std.specs.Prelude.{◌==◌, ◌||◌, ℕ, List, [], ◌∷◌, ◌++◌, if◌then◌else◌}
use Rattle.mime_types.specs.Groups.{essence}
use Rattle.mime_types.specs.Mime.{Mime, Parameter}
use Rattle.mime_types.specs.Text.{is_a_token}

-- a backslash stands before each quote and each backslash
abbrev pub escaped : List ℕ → List ℕ
escaped [] = []
escaped (x ∷ s) = if x == 0x22 || x == 0x5C then 0x5C ∷ x ∷ escaped s else x ∷ escaped s

-- a value that is no token stands in quotes
abbrev pub in_quotes : List ℕ → List ℕ
in_quotes value = 0x22 ∷ (escaped value ++ 0x22 ∷ [])

abbrev pub value_text : List ℕ → List ℕ
value_text value = if is_a_token value then value else in_quotes value

abbrev pub parameter_text : Parameter → List ℕ
parameter_text p = 0x3B ∷ (p.name ++ 0x3D ∷ value_text p.value)

unfoldable pub parameters_text : List Parameter → List ℕ
parameters_text [] = []
parameters_text (p ∷ ps) = parameter_text p ++ parameters_text ps

abbrev pub serialize : Mime → List ℕ
serialize m = essence m.kind ++ parameters_text m.parameters
