-- What is told to C of a name and bytes.
use Rattle.std.specs.Prelude.{◌≡◌, ◌+◌, ℕ, ℤ, Bool, false, pos, List, [], Option, if◌then◌else◌, option_map}
use Rattle.std.specs.Option.{option_map_or}
use Rattle.infer_more.specs.Wider.{IsWider}
use Rattle.infer_named.specs.Join.{Told, extension_of, is_own_name, mime_type_of, type_of_name}
use Rattle.infer_named.specs.Named.{IsNamed, key_of, told_listed}
use Rattle.infer_named.specs.Odd.{AreOddities}
use Rattle.infer_named.specs.Table.{keys}
use Rattle.infer_named.specs.declared.join.Named.{Named}
use Rattle.infer_named.specs.declared.join.Standing.{Standing}
use Rattle.infer_named.specs.declared.join.Standing.TheVariants.{Agree, BytesAlone, BytesRefine, Contradicts, NameAlone, NameRefines, Nothing}
use Rattle.infer_named.specs.declared.suspicious_name.Oddities.{Oddities}
use Rattle.infer_c.specs.Codes.{row_code}
use Rattle.infer_c.specs.Written.{WritesText}
use Rattle.infer_c.specs.declared.named.NamedAnswer.{NamedAnswer}
use Rattle.infer_c.specs.declared.named.TypeTexts.{TypeTexts}

-- the number of a standing
abbrev pub standing_code : Standing → ℤ
standing_code Agree = pos 0
standing_code NameRefines = pos 1
standing_code BytesRefine = pos 2
standing_code BytesAlone = pos 3
standing_code NameAlone = pos 4
standing_code Contradicts = pos 5
standing_code Nothing = pos 6

-- the texts of a type: its MIME type, and its extension if a row has it; empty ones of none
abbrev pub mime_text : Option Told → List ℕ
mime_text t = option_map_or mime_type_of t []

abbrev pub extension_of_some : Option (List ℕ) → List ℕ
extension_of_some o = option_map_or (λ e. e) o []

abbrev pub extension_text : Option Told → List ℕ
extension_text t = option_map_or (λ t. extension_of_some (extension_of t)) t []

-- the texts of the type were written, and whether it has an own name was stored
pub record WritesType (t : Option Told) (old new : TypeTexts) : Type 0 where
  pub mime_type : WritesText (mime_text t) old.mime_type new.mime_type
  pub extension : WritesText (extension_text t) old.extension new.extension
  pub own : new.is_own_name ≡ option_map_or is_own_name t false

-- what the name and the bytes tell was stored: the standing, the row of the bytes, the type that is told and the first that
-- the name has
pub record StoresNamed (name b : List ℕ) (old new : NamedAnswer) : Type 0 where
  pub named : Named
  pub wider : Option ℕ
  pub is_named : IsNamed name b named
  pub is_wider : IsWider b wider
  pub standing : new.standing ≡ standing_code named.standing
  pub row : new.row ≡ row_code wider
  pub told : WritesType (option_map told_listed named.told) old.told new.told
  pub of_name : WritesType (type_of_name (key_of named)) old.name new.name

-- the number of what is odd about a name: a control counts 1, a mark of direction 2, an odd end 4 and two extensions 8
abbrev pub number_if : Bool → ℕ → ℕ
number_if is number = if is then number else 0

abbrev pub oddity_code : Oddities → ℕ
oddity_code odd = number_if odd.has_control 1 + number_if odd.has_direction_mark 2 + number_if odd.ends_oddly 4 + number_if odd.has_two_extensions 8

abbrev pub IsOddityCode : List ℕ → ℕ → Type 0
IsOddityCode name code = (odd : Oddities) × AreOddities keys name odd × (code ≡ oddity_code odd)
