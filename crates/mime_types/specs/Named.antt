-- The parameter of a name.
use Rattle.std.specs.Prelude.{◌≡◌, ℕ, List, [], ◌∷◌, Option, None, Some, if◌then◌else◌}
use Rattle.std.specs.Str.{bytes_eq}
use Rattle.mime_types.specs.Mime.{Parameter}
use Rattle.mime_types.specs.Parameters.{StandsFirst, is_named}
use Rattle.mime_types.specs.Segment.{AsWritten}
use Rattle.mime_types.specs.Text.{lower}
use Rattle.mime_types.specs.declared.parameter.Value.{Value}

-- its value, if there is one
abbrev pub value_of : List ℕ → List Parameter → Option (List ℕ)
value_of name [] = None
value_of name (p ∷ ps) = if bytes_eq p.name name then Some p.value else value_of name ps

-- the value of the first valid one, of those that are written
abbrev pub first_value : List ℕ → List Parameter → Option (List ℕ)
first_value name [] = None
first_value name (p ∷ ps) = if is_named name p then Some p.value else first_value name ps

-- the value stands in this text, as that of the first valid parameter with the name
abbrev pub ValueStands : List ℕ → List ℕ → Value → Type 0
ValueStands tail name v =
    (p : AsWritten) × StandsFirst tail p × (lower p.name ≡ name) × (p.text ≡ v.text.now) × (p.is_quoted ≡ v.is_quoted)
