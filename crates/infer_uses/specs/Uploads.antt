-- What an upload gate lets pass, by a name and the first bytes.
use Rattle.std.specs.Prelude.{◌≡◌, ◌&&◌, ◌||◌, ℕ, Bool, false, true, List, Option, None, Some, option_map}
use Rattle.std.specs.List.{list_any}
use Rattle.std.specs.Str.{bytes_eq}
use Rattle.infer_named.specs.Join.{Told, mime_type_of, type_of_name}
use Rattle.infer_named.specs.Named.{IsNamed, key_of, told_listed}
use Rattle.infer_named.specs.Odd.{AreOddities}
use Rattle.infer_named.specs.Table.{keys}
use Rattle.infer_named.specs.declared.join.Named.{Named}
use Rattle.infer_named.specs.declared.join.Standing.{Standing}
use Rattle.infer_named.specs.declared.join.Standing.TheVariants.{Agree, BytesAlone, BytesRefine, Contradicts, NameAlone, NameRefines, Nothing}
use Rattle.infer_named.specs.declared.suspicious_name.Oddities.{Oddities}

-- the MIME type is on the list
abbrev pub has : List (List ℕ) → List ℕ → Bool
has list mime_type = list_any (λ it. bytes_eq it mime_type) list

abbrev pub is_listed : List (List ℕ) → Option Told → Bool
is_listed list None = false
is_listed list (Some t) = has list (mime_type_of t)

-- by what the name did, the type that is told and that of the name: where the bytes refine the name, both are asked for
abbrev pub passes : List (List ℕ) → Standing → Option Told → Option Told → Bool
passes list Agree told own = is_listed list told
passes list NameRefines told own = is_listed list told
passes list BytesRefine told own = is_listed list told && is_listed list own
passes list BytesAlone told own = false
passes list NameAlone told own = false
passes list Contradicts told own = false
passes list Nothing told own = false

-- the name is shown as it is not, or moves a cursor
abbrev pub misleads : Oddities → Bool
misleads odd = odd.has_control || odd.has_direction_mark

-- whether an upload with this name that begins with b passes a list of MIME types, if the name misleads, or not
abbrev pub IsPassingAs : Bool → List (List ℕ) → List ℕ → List ℕ → Bool → Type 0
IsPassingAs true list name b passing = passing ≡ false
IsPassingAs false list name b passing = (n : Named) × IsNamed name b n × (passing ≡ passes list n.standing (option_map told_listed n.told) (type_of_name (key_of n)))

abbrev pub IsPassing : List (List ℕ) → List ℕ → List ℕ → Bool → Type 0
IsPassing list name b passing = (odd : Oddities) × AreOddities keys name odd × IsPassingAs (misleads odd) list name b passing
