-- Lines, as they are told to C.
use Rattle.std.specs.Prelude.{◌≡◌, ◌==◌, ℕ, ℤ, Bool, negsuc, List, [], ◌∷◌, Option, None, Some, if◌then◌else◌}
use Rattle.infer_label.specs.Lines.{IsLineOf}
use Rattle.infer_label.specs.Options.{Options}
use Rattle.infer_label.specs.declared.Answer.{Answer}
use Rattle.infer_label.specs.declared.options.Form.{Form}
use Rattle.infer_label.specs.declared.options.Form.TheVariants as forms
use Rattle.infer_label.specs.declared.options.Look.{Look}
use Rattle.infer_label.specs.declared.options.Look.TheVariants.{Browser, BrowserForbidden, BuiltIn, Bytes, NameAndBytes}
use Rattle.infer_label.specs.declared.options.Note.{Note}
use Rattle.infer_label.specs.declared.options.Note.TheVariants.{Fault, Kind}
use Rattle.infer_named.specs.declared.join.Standing.{Standing}
use Rattle.infer_c.specs.Mime.{has_bit}
use Rattle.infer_c.specs.Named.{standing_code}
use Rattle.infer_c.specs.Written.{WritesText}
use Rattle.infer_c.specs.declared.label.Asked.{Asked}

-- what an input is told by, how its line is written and what is noted of it, by their numbers: any other is 0
abbrev pub look_of : ℕ → Look
look_of n = if n == 1 then Bytes else (if n == 2 then BuiltIn else (if n == 3 then Browser else (if n == 4 then BrowserForbidden else NameAndBytes)))

abbrev pub form_of : ℕ → Form
form_of n = if n == 1 then forms.Mime else (if n == 2 then forms.Json else (if n == 3 then forms.Csv else forms.Text))

abbrev pub note_of : ℕ → Note
note_of n = if n == 1 then Kind else Fault

-- a text that is empty is none
abbrev pub given : List ℕ → Option (List ℕ)
given [] = None
given (x ∷ text) = Some (x ∷ text)

-- the options by their numbers: of the flags 1 is reasons, 2 leaves the name out, and 4 tells the size
abbrev pub options_by : (look form flags : ℕ) (types content_type : List ℕ) (size : ℕ) → Options
options_by look form flags types content_type size = record {
  look = look_of look;
  form = form_of form;
  own = given types;
  content_type = given content_type;
  why = has_bit flags 1;
  is_unnamed = has_bit flags 2;
  size = if has_bit flags 4 then Some size else None;
}

abbrev pub options_of : Asked → Options
options_of o = options_by o.look o.form o.flags o.types.now o.content_type.now o.size

-- the number of a standing, and -1 if there is none
abbrev pub standing_number : Option Standing → ℤ
standing_number None = negsuc 0
standing_number (Some standing) = standing_code standing

-- the line was written, and its length and what it tells were stored
abbrev pub WritesLine : Options → (name b : List ℕ) → (result : ℕ) → (standing : ℤ) → (is_known : Bool) → (old new : List ℕ) → Type 0
WritesLine o name b result standing is_known old new =
    (answer : Answer) × (text : List ℕ) × IsLineOf o name b answer text × (result ≡ answer.len) × (standing ≡ standing_number answer.standing) × (is_known ≡ answer.is_known) × WritesText text old new
