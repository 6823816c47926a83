-- What a text says as a MIME type.
use Rattle.std.specs.Prelude.{◌≡◌, ℕ, List, [], ◌∷◌, IsTrue, Option, None, Some, if◌then◌else◌}
use Rattle.mime_types.specs.Mime.{Mime}
use Rattle.mime_types.specs.Parameters.{parameters}
use Rattle.mime_types.specs.Text.{after, front, is_a_token, is_semicolon, is_slash, lower, trim, trim_end}

-- the type stands before the first "/". Behind it stands the subtype, up to the first ";", and after that the parameters
abbrev pub type_text : List ℕ → List ℕ
type_text t = front is_slash (trim t)

abbrev pub after_slash : List ℕ → List ℕ
after_slash t = after is_slash (trim t)

-- the subtype of what stands after the "/"
abbrev pub subtype_before : List ℕ → List ℕ
subtype_before s = trim_end (front is_semicolon s)

abbrev pub subtype_text : List ℕ → List ℕ
subtype_text t = subtype_before (after_slash t)

abbrev pub tail_text : List ℕ → List ℕ
tail_text t = after is_semicolon (after_slash t)

-- what stands after the "/" that a text begins with, if it does
abbrev pub after_slash_first : List ℕ → List ℕ
after_slash_first [] = []
after_slash_first (x ∷ s) = if is_slash x then s else []

-- what stands after the ";" that a text begins with, and nothing if the text is empty
abbrev pub after_semicolon_first : List ℕ → Option (List ℕ)
after_semicolon_first [] = Some []
after_semicolon_first (x ∷ s) = if is_semicolon x then Some s else None

-- the part if it is a token, and otherwise nothing
abbrev pub if_token : List ℕ → List ℕ
if_token s = if is_a_token s then s else []

-- type and subtype are tokens, and m has them in lower case, with the parameters. Without a "/" there is no subtype
pub record Parsed (t : List ℕ) (m : Mime) : Type 0 where
  pub type_token : IsTrue (is_a_token (type_text t))
  pub subtype_token : IsTrue (is_a_token (subtype_text t))
  pub type_name : m.kind.type_name ≡ lower (type_text t)
  pub subtype : m.kind.subtype ≡ lower (subtype_text t)
  pub all : m.parameters ≡ parameters (tail_text t)
