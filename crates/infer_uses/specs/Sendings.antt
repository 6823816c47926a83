-- Which type a static server sends, by a name and the first bytes.
use Rattle.std.specs.Prelude.{◌≡◌, ◌&&◌, ℕ, Bool, false, true, List, Option, None, Some, codes, if◌then◌else◌, not, option_map}
use Rattle.std.specs.Str.{bytes_eq}
use Rattle.infer.specs.Triple.{Triple}
use Rattle.infer.specs.declared.table.file_type.MatcherType.{MatcherType}
use Rattle.infer.specs.declared.table.file_type.MatcherType.TheVariants as classes
use Rattle.infer_named.specs.Join.{Told, is_own_name, mime_type_of, of_bytes, of_name, type_of_name}
use Rattle.infer_named.specs.Named.{IsNamed, key_of, told_listed}
use Rattle.infer_named.specs.declared.join.Named.{Named}
use Rattle.infer_named.specs.declared.join.Standing.{Standing}
use Rattle.infer_named.specs.declared.join.Standing.TheVariants.{Agree, BytesAlone, BytesRefine, Contradicts, NameAlone, NameRefines, Nothing}

-- what is sent of a file of which nothing may be said
abbrev pub unsaid : List ℕ
unsaid = codes "application/octet-stream"

-- a type as it is sent: not under a MIME type that nobody else knows
abbrev pub sent : Option Told → List ℕ
sent None = unsaid
sent (Some t) = if is_own_name t then unsaid else mime_type_of t

-- a browser shows it or plays it: an image, a sound, a film or a font
abbrev pub is_shown : MatcherType → Bool
is_shown classes.Image = true
is_shown classes.Audio = true
is_shown classes.Video = true
is_shown classes.Font = true
is_shown classes.App = false
is_shown classes.Archive = false
is_shown classes.Book = false
is_shown classes.Doc = false
is_shown classes.Text = false
is_shown classes.Custom = false

-- and does not run it, as it runs an image in SVG
abbrev pub is_harmless : Triple → Bool
is_harmless t = is_shown t.class && not (bytes_eq t.mime_type (codes "image/svg+xml"))

-- a type that no name says
abbrev pub sent_alone : Option Told → List ℕ
sent_alone None = unsaid
sent_alone (Some (of_name t)) = unsaid
sent_alone (Some (of_bytes t)) = if is_harmless t then t.mime_type else unsaid

-- by what the name did, the type that is told and that of the name: where the bytes refine the name, the name's is sent
abbrev pub sending : Standing → Option Told → Option Told → List ℕ
sending Agree told own = sent told
sending NameRefines told own = sent told
sending BytesRefine told own = sent own
sending BytesAlone told own = sent_alone told
sending NameAlone told own = unsaid
sending Contradicts told own = unsaid
sending Nothing told own = unsaid

-- the text is what is sent as the type of a file with this name that begins with b
abbrev pub IsSent : List ℕ → List ℕ → List ℕ → Type 0
IsSent name b text = (n : Named) × IsNamed name b n × (text ≡ sending n.standing (option_map told_listed n.told) (type_of_name (key_of n)))
