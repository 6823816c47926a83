-- What is told to C of MIME types, and of what a browser makes of them.
use Rattle.std.specs.Prelude.{◌≡◌, ◌==◌, ◌+◌, ◌≤◌, ◌⊎◌, ◌↔◌, ℕ, ℤ, Bool, pos, List, [], Option, None, Some, IfSome, IsTrue, bit_and, codes, length, option_map}
use Rattle.mime_types.specs.Extracted.{EndsInView, IsExtracted, mime_together, texts}
use Rattle.mime_types.specs.Groups.{IsArchive, IsAudioOrVideo, IsFont, IsHtml, IsImage, IsJavaScript, IsJson, IsScriptable, IsXml, IsZipBased, essence}
use Rattle.mime_types.specs.Mime.{Kind, Mime}
use Rattle.mime_types.specs.Minimal.{IsMinimal}
use Rattle.mime_types.specs.Named.{value_of}
use Rattle.mime_types.specs.Parse.{Parsed, tail_text}
use Rattle.mime_types.specs.Pieces.{pieces}
use Rattle.mime_types.specs.Seen.{mime_of}
use Rattle.mime_types.specs.Serialize.{serialize}
use Rattle.mime_types.specs.Wrote.{HasFew}
use Rattle.mime_types.specs.declared.extraction.Extracted.{Extracted}
use Rattle.mime_types.specs.declared.mime_type.MimeType.{MimeType}
use Rattle.mime_types.specs.declared.minimal.Minimal.{Minimal}
use Rattle.mime_types.specs.declared.minimal.Minimal.TheVariants.{Essence, JavaScript, Json, Nothing, Svg, Xml}
use Rattle.mime_types.specs.declared.nosniff.Destination.{Destination}
use Rattle.mime_types.specs.declared.nosniff.Destination.TheVariants.{Other, Script, Style}
use Rattle.mime_sniff.specs.Computed.{Supply}
use Rattle.mime_sniff.specs.declared.context.Context.{Context}
use Rattle.mime_sniff.specs.declared.context.Context.TheVariants as contexts
use Rattle.infer_c.specs.Named.{number_if}

-- the MIME type that a text says, or none
abbrev pub Says : List ℕ → Option Mime → Type 0
Says t None = (m : Mime) → ¬ Parsed t m
Says t (Some m) = Parsed t m

abbrev pub kind_said : Option Mime → Option Kind
kind_said said = option_map (λ m. m.kind) said

-- few parameters are written in a text that ends so, and the MIME type's own text has room
abbrev pub IsShort : List ℕ → Mime → Type 0
IsShort tail m = HasFew 256 tail × (length (serialize m) ≤ 4095)

abbrev pub IsTextOf : List ℕ → Mime → List ℕ → Type 0
IsTextOf tail m written = (IsShort tail m × (written ≡ serialize m)) ⊎ ((¬ IsShort tail m) × (written ≡ []))

-- the text of the MIME type that t says, which is empty if there is none or it is too long
abbrev pub IsMimeText : List ℕ → Option Mime → List ℕ → Type 0
IsMimeText t None written = written ≡ []
IsMimeText t (Some m) written = IsTextOf (tail_text t) m written

-- that of what was found
abbrev pub IsFoundText : Option MimeType → List ℕ → Type 0
IsFoundText None written = written ≡ []
IsFoundText (Some v) written = IsTextOf v.tail.now (mime_of v) written

-- a text, if it has room
abbrev pub IsWithRoom : List ℕ → List ℕ → Type 0
IsWithRoom text written = ((length text ≤ 4095) × (written ≡ text)) ⊎ ((¬ (length text ≤ 4095)) × (written ≡ []))

-- the essence
abbrev pub IsKindText : Kind → List ℕ → Type 0
IsKindText k written = IsWithRoom (essence k) written

abbrev pub IsEssenceText : Option Kind → List ℕ → Type 0
IsEssenceText None written = written ≡ []
IsEssenceText (Some k) written = IsKindText k written

-- the value of the parameter with that name, of what was said
abbrev pub value_said : List ℕ → Option Mime → Option (List ℕ)
value_said name None = None
value_said name (Some m) = value_of name m.parameters

abbrev pub IsValueText : Option (List ℕ) → List ℕ → Type 0
IsValueText None written = written ≡ []
IsValueText (Some value) written = IsWithRoom value written

-- the text of what a MIME type is taken for
abbrev pub IsTextOfMinimal : Kind → Minimal → List ℕ → Type 0
IsTextOfMinimal k JavaScript written = written ≡ codes "text/javascript"
IsTextOfMinimal k Json written = written ≡ codes "application/json"
IsTextOfMinimal k Svg written = written ≡ codes "image/svg+xml"
IsTextOfMinimal k Xml written = written ≡ codes "application/xml"
IsTextOfMinimal k Essence written = IsKindText k written
IsTextOfMinimal k Nothing written = written ≡ []

abbrev pub IsLeastText : Kind → Bool → List ℕ → Type 0
IsLeastText k supported written = (least : Minimal) × IsMinimal k supported least × IsTextOfMinimal k least written

abbrev pub IsMinimalText : Option Kind → Bool → List ℕ → Type 0
IsMinimalText None supported written = written ≡ []
IsMinimalText (Some k) supported written = IsLeastText k supported written

-- the groups that a kind is in, as a sum
pub record IsGroupCode (k : Kind) (code : ℕ) : Type 0 where
  pub image : Bool
  pub media : Bool
  pub font : Bool
  pub zip : Bool
  pub archive : Bool
  pub xml : Bool
  pub html : Bool
  pub scriptable : Bool
  pub script : Bool
  pub json : Bool
  pub is_image : IsTrue image ↔ IsImage k
  pub is_media : IsTrue media ↔ IsAudioOrVideo k
  pub is_font : IsTrue font ↔ IsFont k
  pub is_zip : IsTrue zip ↔ IsZipBased k
  pub is_archive : IsTrue archive ↔ IsArchive k
  pub is_xml : IsTrue xml ↔ IsXml k
  pub is_html : IsTrue html ↔ IsHtml k
  pub is_scriptable : IsTrue scriptable ↔ IsScriptable k
  pub is_script : IsTrue script ↔ IsJavaScript k
  pub is_json : IsTrue json ↔ IsJson k
  pub sum : code
      ≡ number_if image 1 + number_if media 2 + number_if font 4 + number_if zip 8 + number_if archive 16 + number_if xml 32
      + number_if html 64 + number_if scriptable 128 + number_if script 256 + number_if json 512

abbrev pub IsGroupCodeSaid : Option Kind → ℕ → Type 0
IsGroupCodeSaid None code = code ≡ 0
IsGroupCodeSaid (Some k) code = IsGroupCode k code

-- the MIME type that values say together
abbrev pub mime_extracted : Option Extracted → Option MimeType
mime_extracted found = option_map (λ e. e.mime_type) found

-- what values say together, as a view of the last piece that says one
abbrev pub SayTogether : List ℕ → Option Extracted → Type 0
SayTogether value found = IsExtracted value found × IfSome found (λ e. EndsInView (texts (pieces value)) e.mime_type)

-- its text, which is empty if they say nothing or it is too long
abbrev pub IsTogetherText : Option Extracted → List ℕ → Type 0
IsTogetherText None written = written ≡ []
IsTogetherText (Some e) written = IsTextOf e.mime_type.tail.now (mime_together e) written

-- the number of what a resource is fetched for
abbrev pub destination_code : Destination → ℤ
destination_code Script = pos 0
destination_code Style = pos 1
destination_code Other = pos 2

abbrev pub IsDestinationOf : ℤ → Option Destination → Type 0
IsDestinationOf code (Some destination) = destination_code destination ≡ code
IsDestinationOf code None = (destination : Destination) → ¬ (destination_code destination ≡ code)

-- the number of what it is loaded for
abbrev pub context_code : Context → ℤ
context_code contexts.Browsing = pos 0
context_code contexts.Image = pos 1
context_code contexts.AudioOrVideo = pos 2
context_code contexts.Font = pos 3
context_code contexts.Plugin = pos 4
context_code contexts.Style = pos 5
context_code contexts.Script = pos 6
context_code contexts.TextTrack = pos 7
context_code contexts.CacheManifest = pos 8

abbrev pub IsContextOf : ℤ → Option Context → Type 0
IsContextOf code (Some context) = context_code context ≡ code
IsContextOf code None = (context : Context) → ¬ (context_code context ≡ code)

abbrev pub has_bit : ℕ → ℕ → Bool
has_bit flags bit = bit_and flags bit == bit

-- what is known by the MIME type and the flags: 1 forbids to sniff, and 2 is the header of an old server
abbrev pub supply_said : Option Mime → ℕ → Supply
supply_said said flags = record { kind = kind_said said; no_sniff = has_bit flags 1; apache_bug = has_bit flags 2 }

-- the text of a computed type: what is told, or else that of the supplied type
abbrev pub IsReportedText : List ℕ → Option Mime → Option (List ℕ) → List ℕ → Type 0
IsReportedText t said (Some told) written = written ≡ told
IsReportedText t said None written = IsMimeText t said written
