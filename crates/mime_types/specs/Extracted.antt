-- What the values of `Content-Type` say together.
use Rattle.std.specs.Prelude.{◌≡◌, ◌&&◌, ℕ, Bool, List, [], ◌∷◌, ◌++◌, Option, None, Some, codes, if◌then◌else◌, not, option_map, option_to_list}
use Rattle.std.specs.List.{AllByRecursion}
use Rattle.std.specs.Option.{option_or}
use Rattle.std.specs.Str.{bytes_eq}
use Rattle.mime_types.specs.Mime.{Kind, Mime, Parameter}
use Rattle.mime_types.specs.Named.{value_of}
use Rattle.mime_types.specs.Parameters.{parameters}
use Rattle.mime_types.specs.Parse.{subtype_text, tail_text, type_text}
use Rattle.mime_types.specs.Pieces.{pieces}
use Rattle.mime_types.specs.Seen.{IsViewOf, kind_of, mime_of, value_seen}
use Rattle.mime_types.specs.Text.{is_a_token, lower}
use Rattle.mime_types.specs.declared.extraction.Extracted.{Extracted}
use Rattle.mime_types.specs.declared.extraction.Run.{Run}
use Rattle.mime_types.specs.declared.mime_type.MimeType.{MimeType}

-- what a piece says, if type and subtype are tokens
abbrev pub mime_said : List ℕ → Mime
mime_said t = record {
  kind = record { type_name = lower (type_text t); subtype = lower (subtype_text t) };
  parameters = parameters (tail_text t);
}

abbrev pub is_said : List ℕ → Bool
is_said t = is_a_token (type_text t) && is_a_token (subtype_text t)

-- "*/*"
abbrev pub is_any : Kind → Bool
is_any k = bytes_eq k.type_name (codes "*") && bytes_eq k.subtype (codes "*")

-- the MIME type that a piece says, if it says one other than "*/*"
abbrev pub usable : List ℕ → Option Mime
usable t = if is_said t && not (is_any (mime_said t).kind) then Some (mime_said t) else None

-- and the piece itself
abbrev pub usable_text : List ℕ → Option (List ℕ)
usable_text t = if is_said t && not (is_any (mime_said t).kind) then Some t else None

-- the pieces that say one, in order
abbrev pub texts : List (List ℕ) → List (List ℕ)
texts [] = []
texts (p ∷ ps) = option_to_list (usable_text p) ++ texts ps

-- the view is of the last of these
abbrev pub EndsInView : List (List ℕ) → MimeType → Type 0
EndsInView ts v = (earlier : List (List ℕ)) × (last : List ℕ) × (ts ≡ earlier ++ last ∷ []) × IsViewOf last v

abbrev pub IsLastView : List (List ℕ) → Option Run → Type 0
IsLastView ts None = ts ≡ []
IsLastView ts (Some run) = EndsInView ts run.last

-- the MIME types that pieces say, in order
abbrev pub said : List (List ℕ) → List Mime
said [] = []
said (p ∷ ps) = option_to_list (usable p) ++ said ps

abbrev pub charset_of : Mime → Option (List ℕ)
charset_of m = value_of (codes "charset") m.parameters

-- m is the last of these, and the longest run of its type and subtype that ends them begins with one of this charset
pub record EndsInRun (ms : List Mime) (m : Mime) (charset : Option (List ℕ)) : Type 0 where
  pub front : List Mime
  pub first : Mime
  pub after : List Mime
  pub whole : ms ≡ front ++ first ∷ after
  pub alike : AllByRecursion (λ x. x.kind ≡ first.kind) after
  pub other : (before : List Mime) (x : Mime) → front ≡ before ++ x ∷ [] → ¬ (x.kind ≡ first.kind)
  pub kind : m.kind ≡ first.kind
  pub earlier : List Mime
  pub last : ms ≡ earlier ++ m ∷ []
  pub charset_is : charset ≡ charset_of first

abbrev pub IsLastRun : List Mime → Option Run → Type 0
IsLastRun ms None = ms ≡ []
IsLastRun ms (Some run) = EndsInRun ms (mime_of run.last) (option_map value_seen run.charset)

-- the last of what is said, with its charset, or with that of the first of the run if it has none
abbrev pub IsExtracted : List ℕ → Option Extracted → Type 0
IsExtracted value None = said (pieces value) ≡ []
IsExtracted value (Some e) =
    (charset : Option (List ℕ)) × EndsInRun (said (pieces value)) (mime_of e.mime_type) charset
    × (option_map value_seen e.charset ≡ option_or (charset_of (mime_of e.mime_type)) charset)

-- the charset that is told of a MIME type as a parameter, if that has none of its own
abbrev pub carried : Option (List ℕ) → Option (List ℕ) → List Parameter
carried (Some own) told = []
carried None None = []
carried None (Some charset) = record { name = codes "charset"; value = charset } ∷ []

-- what the values say together: the MIME type, with that parameter after its own
abbrev pub mime_together : Extracted → Mime
mime_together e = record {
  kind = kind_of e.mime_type;
  parameters = (mime_of e.mime_type).parameters ++ carried (charset_of (mime_of e.mime_type)) (option_map value_seen e.charset);
}
