-- The line of an input.
use Rattle.std.specs.Prelude.{◌&&◌, ◌||◌, ◌==◌, ℕ, Bool, true, false, List, [], ◌∷◌, ◌++◌, Option, None, Some, codes, if◌then◌else◌, not}
use Rattle.std.specs.Fmt.{decimal}
use Rattle.std.specs.Int.{is_in_range}
use Rattle.std.specs.List.{flat_map, list_all}
use Rattle.std.specs.Str.{is_utf8}
use Rattle.infer.specs.declared.table.file_type.MatcherType.{MatcherType}
use Rattle.infer.specs.declared.table.file_type.MatcherType.TheVariants as classes
use Rattle.infer_formats.specs.Text.{encoding_name}
use Rattle.infer_formats.specs.declared.text.Encoding.{Encoding}
use Rattle.infer_named.specs.declared.join.Standing.{Standing}
use Rattle.infer_named.specs.declared.join.Standing.TheVariants.{Agree, BytesAlone, BytesRefine, Contradicts, NameAlone, NameRefines, Nothing}
use Rattle.infer_label.specs.Label.{Label}
use Rattle.infer_label.specs.Names.{byte_hex, name_shown}
use Rattle.infer_label.specs.Options.{Options}
use Rattle.infer_label.specs.Why.{Why}
use Rattle.infer_label.specs.WhyJson.{why_member}
use Rattle.infer_label.specs.WhyText.{reasons_text, why_text}
use Rattle.infer_label.specs.declared.options.Form.{Form}
use Rattle.infer_label.specs.declared.options.Form.TheVariants.{Csv, Json, Mime, Text}
use Rattle.infer_label.specs.declared.options.Note.{Note}
use Rattle.infer_label.specs.declared.options.Note.TheVariants.{Fault, Kind}

-- what a name did, in words
abbrev pub standing_name : Standing → List ℕ
standing_name Agree = codes "agree"
standing_name NameRefines = codes "name refines"
standing_name BytesRefine = codes "bytes refine"
standing_name BytesAlone = codes "bytes alone"
standing_name NameAlone = codes "name alone"
standing_name Contradicts = codes "contradicts"
standing_name Nothing = codes "nothing"

-- the verdict on the name: it fits the bytes, lies, stays unproven, or is silent
abbrev pub verdict_name : Standing → List ℕ
verdict_name Agree = codes "fits"
verdict_name NameRefines = codes "fits"
verdict_name BytesRefine = codes "fits"
verdict_name BytesAlone = codes "silent"
verdict_name NameAlone = codes "unproven"
verdict_name Contradicts = codes "lies"
verdict_name Nothing = codes "silent"

abbrev pub or_none : Option (List ℕ) → List ℕ
or_none None = []
or_none (Some text) = text

-- As a text: the MIME type and the extension; that only the name tells them; that there are no bytes; the encoding; and
-- the type that the name has, where it contradicts.
abbrev pub extension_text : Option (List ℕ) → List ℕ
extension_text None = []
extension_text (Some extension) = codes " " ++ extension

abbrev pub alone_text : Option Standing → List ℕ
alone_text (Some NameAlone) = codes " by its name alone"
alone_text standing = []

abbrev pub empty_text : Bool → List ℕ
empty_text true = codes ", empty"
empty_text false = []

abbrev pub type_text : Option (List ℕ) → Label → List ℕ
type_text (Some mime_type) l =
    name_shown Text mime_type ++ (extension_text l.extension ++ (alone_text l.standing ++ empty_text l.is_empty))
type_text None l = if l.is_empty then codes "empty" else codes "unknown"

abbrev pub encoding_text : Option Encoding → List ℕ
encoding_text None = []
encoding_text (Some encoding) = codes ", " ++ encoding_name encoding

abbrev pub named_text : Option (List ℕ) → List ℕ
named_text None = []
named_text (Some mime_type) = codes ", but named as " ++ mime_type

abbrev pub label_text : Label → List ℕ
label_text l = type_text l.mime_type l ++ (encoding_text l.encoding ++ named_text l.named)

-- As `file --mime` has it: what is unknown are some bytes, and what is no text has no encoding.
abbrev pub mime_type_text : Option (List ℕ) → Bool → List ℕ
mime_type_text (Some mime_type) empty = name_shown Mime mime_type
mime_type_text None true = codes "inode/x-empty"
mime_type_text None false = codes "application/octet-stream"

abbrev pub charset_text : Option Encoding → List ℕ
charset_text None = codes "binary"
charset_text (Some encoding) = encoding_name encoding

abbrev pub mime_text : Label → List ℕ
mime_text l = mime_type_text l.mime_type l.is_empty ++ (codes "; charset=" ++ charset_text l.encoding)

-- As an object of JSON: the name, or its bytes in hexadecimal if it is not UTF-8, and a member for what is known.
abbrev pub utf8_member : List ℕ → List ℕ
utf8_member name = codes "{\"name\":\"" ++ (name_shown Json name ++ codes "\",")

abbrev pub hex_member : List ℕ → List ℕ
hex_member name = codes "{\"name_hex\":\"" ++ (flat_map byte_hex name ++ codes "\",")

abbrev pub name_member : List ℕ → List ℕ
name_member name = if is_utf8 name then utf8_member name else hex_member name

abbrev pub extension_member : Option (List ℕ) → List ℕ
extension_member None = []
extension_member (Some extension) = codes ",\"extension\":\"" ++ (extension ++ codes "\"")

abbrev pub type_members : Option (List ℕ) → Option (List ℕ) → List ℕ
type_members (Some mime_type) extension = codes "\"mime_type\":\"" ++ (name_shown Json mime_type ++ (codes "\"" ++ extension_member extension))
type_members None extension = codes "\"mime_type\":null"

abbrev pub empty_member : Bool → List ℕ
empty_member true = codes ",\"empty\":true"
empty_member false = []

abbrev pub encoding_member : Option Encoding → List ℕ
encoding_member None = []
encoding_member (Some encoding) = codes ",\"encoding\":\"" ++ (encoding_name encoding ++ codes "\"")

abbrev pub standing_member : Option Standing → List ℕ
standing_member None = []
standing_member (Some standing) = codes ",\"standing\":\"" ++ (standing_name standing ++ codes "\"")

abbrev pub verdict_member : Option Standing → List ℕ
verdict_member None = []
verdict_member (Some standing) = codes ",\"verdict\":\"" ++ (verdict_name standing ++ codes "\"")

abbrev pub named_member : Option (List ℕ) → List ℕ
named_member None = []
named_member (Some mime_type) = codes ",\"named\":\"" ++ (mime_type ++ codes "\"")

abbrev pub label_members : Label → List ℕ
label_members l =
    type_members l.mime_type l.extension
    ++ (empty_member l.is_empty ++ (encoding_member l.encoding
    ++ (standing_member l.standing ++ (verdict_member l.standing ++ named_member l.named))))

-- a sum may begin with "=", "+", "-" or "@", and with each of these in full width: U+FF1D, U+FF0B, U+FF0D and U+FF20
abbrev pub begins_as_wide_sum : List ℕ → Bool
begins_as_wide_sum (x ∷ y ∷ z ∷ text) = (x == 0xEF) && ((y == 0xBC) && (z == 0x9D || (z == 0x8B || (z == 0x8D || z == 0xA0))))
begins_as_wide_sum text = false

-- As a row of CSV: the name, the MIME type, the extension, the class, the encoding, what the name did, the MIME type and the
-- extension that it has, where it contradicts, how many bytes the file has, the fault, and why. A given text stands between
-- quotation marks; where it begins as a sum does, of which a table would make one, "./" stands before it.
abbrev pub begins_as_sum : List ℕ → Bool
begins_as_sum [] = false
begins_as_sum (x ∷ text) = x == 0x3D || (x == 0x2B || (x == 0x2D || (x == 0x40 || begins_as_wide_sum (x ∷ text))))

abbrev pub guard : List ℕ → List ℕ
guard text = if begins_as_sum text then codes "./" else []

abbrev pub quoted : List ℕ → List ℕ
quoted text = codes "\"" ++ (guard text ++ (name_shown Csv text ++ codes "\""))

-- a MIME type of letters, digits and what else the names of most have needs no quotation marks
abbrev pub is_bare : ℕ → Bool
is_bare x = is_in_range 0x61 0x7A x || (is_in_range 0x41 0x5A x || (is_in_range 0x2B 0x39 x && not (x == 0x2C)))

abbrev pub mime_field : Option (List ℕ) → Bool → List ℕ
mime_field (Some mime_type) empty = if list_all is_bare mime_type && not (begins_as_sum mime_type) then mime_type else quoted mime_type
mime_field None true = codes "empty"
mime_field None false = []

abbrev pub class_name : MatcherType → List ℕ
class_name classes.App = codes "app"
class_name classes.Archive = codes "archive"
class_name classes.Audio = codes "audio"
class_name classes.Book = codes "book"
class_name classes.Doc = codes "doc"
class_name classes.Font = codes "font"
class_name classes.Image = codes "image"
class_name classes.Text = codes "text"
class_name classes.Video = codes "video"
class_name classes.Custom = codes "custom"

abbrev pub class_field : Option MatcherType → List ℕ
class_field None = []
class_field (Some class) = class_name class

abbrev pub encoding_field : Option Encoding → List ℕ
encoding_field None = []
encoding_field (Some encoding) = encoding_name encoding

abbrev pub standing_field : Option Standing → List ℕ
standing_field None = []
standing_field (Some standing) = standing_name standing

abbrev pub type_fields : Label → List ℕ
type_fields l = mime_field l.mime_type l.is_empty ++ (codes "," ++ (or_none l.extension ++ (codes "," ++ (class_field l.class ++ codes ","))))

abbrev pub named_fields : Label → List ℕ
named_fields l = standing_field l.standing ++ (codes "," ++ (or_none l.named ++ (codes "," ++ (or_none l.named_extension ++ codes ","))))

abbrev pub size_field : Option ℕ → List ℕ
size_field None = []
size_field (Some n) = decimal n

abbrev pub why_field : Option Why → List ℕ
why_field None = []
why_field (Some why) = codes "\"" ++ (reasons_text why ++ codes "\"")

abbrev pub label_fields : Option ℕ → Label → Option Why → List ℕ
label_fields size l why =
    type_fields l ++ (encoding_field l.encoding ++ (codes "," ++ (named_fields l ++ (size_field size ++ (codes ",," ++ (why_field why ++ codes "\n"))))))

-- what stands before all else: the name, unless it is left out
abbrev pub start : Form → Bool → List ℕ → List ℕ
start Text false name = name_shown Text name ++ codes ": "
start Mime false name = name_shown Mime name ++ codes ": "
start Json false name = name_member name
start Csv false name = quoted name ++ codes ","
start Text true name = []
start Mime true name = []
start Json true name = codes "{"
start Csv true name = []

-- what is told of a label. Why it is so comes last, if that is told, and a header has no room for it
abbrev pub told : Form → Option ℕ → Label → Option Why → List ℕ
told Text size label why = label_text label ++ (why_text why ++ codes "\n")
told Mime size label why = mime_text label ++ codes "\n"
told Json size label why = label_members label ++ (why_member why ++ codes "}\n")
told Csv size label why = label_fields size label why

-- the line of an input with this name and label, with its line end
abbrev pub line : Options → List ℕ → Label → Option Why → List ℕ
line o name label why = start o.form o.is_unnamed name ++ told o.form o.size label why

-- what is told of an input that is not looked at
abbrev pub note_member : Note → List ℕ
note_member Fault = codes "\"fault\":\""
note_member Kind = codes "\"kind\":\""

abbrev pub note_fields : Note → List ℕ → List ℕ
note_fields Fault text = codes ",,,,,,,," ++ (quoted text ++ codes ",\n")
note_fields Kind text = quoted text ++ codes ",,,,,,,,,\n"

abbrev pub noted : Form → Note → List ℕ → List ℕ
noted Text note text = name_shown Text text ++ codes "\n"
noted Mime note text = name_shown Mime text ++ codes "\n"
noted Json note text = note_member note ++ (name_shown Json text ++ codes "\"}\n")
noted Csv note text = note_fields note text

-- its line
abbrev pub note_line : Options → Note → List ℕ → List ℕ → List ℕ
note_line o note name text = start o.form o.is_unnamed name ++ noted o.form note text
