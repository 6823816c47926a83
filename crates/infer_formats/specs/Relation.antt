-- Relations: what each asks of a buffer, which a buffer keeps, what every such buffer has at fixed places, and a short one.
use Rattle.std.specs.Prelude.{ℕ, ◌+◌, ◌/◌, ◌%◌, ◌<◌, Bool, false, true, IsTrue, List, [], ◌∷◌, codes, length, map, max, slice_index, take}
use Rattle.infer_deep.specs.ClassId.{HasClassId, compound_header}
use Rattle.infer_deep.specs.Office.{zip_header}
use Rattle.memchr.specs.Find.{OccursAt}
use Rattle.infer_formats.specs.Begins.{Begins, BeginsAndHas, BeginsAndHasAll}
use Rattle.infer_formats.specs.Dbase.{IsDbase, versions}
use Rattle.infer_formats.specs.Elf.{IsSharedObject}
use Rattle.infer_formats.specs.FirstKey.{HasFirstKey, HasFirstKeyWith}
use Rattle.infer_formats.specs.Header.{HasLaterHeader}
use Rattle.infer_formats.specs.Id3.{IsAfterId3}
use Rattle.infer_formats.specs.Json.{IsJson, IsJsonLines}
use Rattle.infer_formats.specs.Markup.{HasRoot, HasRootWith}
use Rattle.infer_formats.specs.Outline.{counted_for, digits_after, first_lines, json_outline, markup_lines, model_entry, named, object_outline, tiff_lines}
use Rattle.infer_formats.specs.Png.{IsAnimated, png_header}
use Rattle.infer_formats.specs.Script.{IsProgram}
use Rattle.infer_formats.specs.Subtitles.{IsSubRip}
use Rattle.infer_formats.specs.Tar.{HasTarChecksum}
use Rattle.infer_formats.specs.Text.{IsText}
use Rattle.infer_formats.specs.Tiff.{HasTag, HasTagAndMake}
use Rattle.infer_formats.specs.Token.{Token, bare, quoted, separator, token_listed}
use Rattle.infer_formats.specs.Zip.{FirstEntryEndsIn, FirstEntryHasExtra, FirstEntryIs, HasEntry, IsJavaArchive, IsOneOf, IsPackageWith, applications, manifest, manifest_folder}
use Rattle.infer_sig.specs.Signature as fixed
use Rattle.infer_sig.specs.Signature.{Part, accepts, any_of, at_least, between, byte, text}
use Rattle.infer_formats.specs.declared.model.Model.{Model}
use Rattle.infer_formats.specs.declared.model.Placed.{Placed}
use Rattle.infer_formats.specs.declared.model.Text.{Text}
use Rattle.infer_formats.specs.declared.model.Text.TheVariants as texts
use Rattle.infer_formats.specs.declared.relation.OfText.{OfText}
use Rattle.infer_formats.specs.declared.relation.OfText.TheVariants.{AnyEntry, BehindId3, Package}
use Rattle.infer_formats.specs.declared.relation.Relation as declared
use Rattle.infer_formats.specs.declared.relation.Relation.TheVariants as listed
use Rattle.infer_formats.specs.declared.relation.Takes.{Takes}
use Rattle.infer_formats.specs.declared.relation.Takes.TheVariants.{ClassId, Entry, Nothing, OneText, Program, Root, Tag}
use Rattle.infer_formats.specs.declared.token.Token as tokens
use denote.Ref.{Bor}

pub data Relation : Type 0 where
  shared_object : Relation
  first_entry_is : List ℕ → Relation
  first_entry_ends_in : List ℕ → Relation
  first_entry_has_extra : List ℕ → Relation
  java_archive : Relation
  has_entry : List ℕ → Relation
  package_with : List ℕ → Relation
  class_id : List ℕ → Relation
  directory_tag : ℕ → Relation
  directory_tag_and_make : ℕ → List ℕ → Relation
  behind_id3 : List ℕ → Relation
  text_first : List ℕ → Relation
  text_first_with : List ℕ → List ℕ → Relation
  text_first_with_all : List ℕ → List ℕ → List ℕ → List ℕ → Relation
  header : List ℕ → ℕ → ℕ → ℕ → Relation
  first_key : List ℕ → Relation
  first_key_with : List ℕ → List ℕ → Relation
  animated : Relation
  subrip : Relation
  dbase : Relation
  tar_checksum : Relation
  program : List ℕ → Relation
  root : List ℕ → Relation
  root_with : List ℕ → List ℕ → Relation
  json_lines : Relation
  json_text : Relation
  plain_text : Relation

-- as the code lists it
abbrev pub relation_listed : declared.Relation → Relation
relation_listed listed.SharedObject = shared_object
relation_listed (listed.FirstEntryIs name) = first_entry_is name.now
relation_listed (listed.FirstEntryEndsIn end) = first_entry_ends_in end.now
relation_listed (listed.FirstEntryHasExtra extra) = first_entry_has_extra extra
relation_listed listed.JavaArchive = java_archive
relation_listed (listed.HasEntry name) = has_entry name.now
relation_listed (listed.PackageWith folder) = package_with folder.now
relation_listed (listed.ClassId id) = class_id id
relation_listed (listed.DirectoryTag tag) = directory_tag tag
relation_listed (listed.DirectoryTagAndMake tag make) = directory_tag_and_make tag make.now
relation_listed (listed.BehindId3 t) = behind_id3 t.now
relation_listed (listed.TextFirst t) = text_first t.now
relation_listed (listed.TextFirstWith t u) = text_first_with t.now u.now
relation_listed (listed.TextFirstWithAll t u v w) = text_first_with_all t.now u.now v.now w.now
relation_listed (listed.Header t far low high) = header t.now far low high
relation_listed (listed.FirstKey k) = first_key k.now
relation_listed (listed.FirstKeyWith k v) = first_key_with k.now v.now
relation_listed listed.Animated = animated
relation_listed listed.SubRip = subrip
relation_listed listed.Dbase = dbase
relation_listed listed.TarChecksum = tar_checksum
relation_listed (listed.Program name) = program name.now
relation_listed (listed.Root name) = root name.now
relation_listed (listed.RootWith name t) = root_with name.now t.now
relation_listed listed.JsonLines = json_lines
relation_listed listed.JsonText = json_text
relation_listed listed.PlainText = plain_text

-- the relation that takes this text
abbrev pub of_text : OfText → List ℕ → Relation
of_text Package t = package_with t
of_text AnyEntry t = has_entry t
of_text BehindId3 t = behind_id3 t

-- what each relation is called, and what stands after its name. "JSON lines" stands before "JSON"
abbrev pub names : List (List Token × Takes)
names =
    (bare (codes "shared") ∷ bare (codes "object") ∷ [], Nothing listed.SharedObject)
    ∷ (bare (codes "chunk") ∷ quoted (codes "acTL") ∷ bare (codes "before") ∷ quoted (codes "IDAT") ∷ [], Nothing listed.Animated)
    ∷ (bare (codes "first") ∷ bare (codes "cue") ∷ bare (codes "of") ∷ bare (codes "SubRip") ∷ [], Nothing listed.SubRip)
    ∷ (bare (codes "dBASE") ∷ bare (codes "header") ∷ [], Nothing listed.Dbase)
    ∷ (bare (codes "Java") ∷ bare (codes "archive") ∷ [], Nothing listed.JavaArchive)
    ∷ (bare (codes "tar") ∷ bare (codes "checksum") ∷ [], Nothing listed.TarChecksum)
    ∷ (bare (codes "JSON") ∷ bare (codes "lines") ∷ [], Nothing listed.JsonLines)
    ∷ (bare (codes "JSON") ∷ [], Nothing listed.JsonText)
    ∷ (bare (codes "text") ∷ [], Nothing listed.PlainText)
    ∷ (bare (codes "first") ∷ bare (codes "directory") ∷ bare (codes "has") ∷ bare (codes "tag") ∷ [], Tag)
    ∷ (bare (codes "package") ∷ bare (codes "with") ∷ separator 0x3A ∷ [], OneText Package)
    ∷ (bare (codes "behind") ∷ bare (codes "an") ∷ bare (codes "ID3") ∷ bare (codes "tag") ∷ separator 0x3A ∷ [], OneText BehindId3)
    ∷ (bare (codes "entry") ∷ separator 0x3A ∷ [], OneText AnyEntry)
    ∷ (bare (codes "begins") ∷ separator 0x3A ∷ [], Takes.Begins)
    ∷ (bare (codes "later") ∷ bare (codes "header") ∷ separator 0x3A ∷ [], Takes.Header)
    ∷ (bare (codes "program") ∷ separator 0x3A ∷ [], Program)
    ∷ (bare (codes "first") ∷ bare (codes "entry") ∷ separator 0x3A ∷ [], Entry)
    ∷ (bare (codes "first") ∷ bare (codes "key") ∷ separator 0x3A ∷ [], Takes.FirstKey)
    ∷ (bare (codes "class") ∷ bare (codes "id") ∷ separator 0x3A ∷ [], ClassId)
    ∷ (bare (codes "root") ∷ separator 0x3A ∷ [], Root)
    ∷ []

abbrev pub name_listed : Bor (List tokens.Token) × Takes → List Token × Takes
name_listed n = (map token_listed n.0.now, n.1)

-- the buffer has what the relation asks
abbrev pub Fits : Relation → List ℕ → Type 0
Fits shared_object b = IsSharedObject b
Fits (first_entry_is name) b = FirstEntryIs name b
Fits (first_entry_ends_in t) b = FirstEntryEndsIn t b
Fits (first_entry_has_extra t) b = FirstEntryHasExtra t b
Fits java_archive b = IsJavaArchive b
Fits (has_entry name) b = HasEntry name b
Fits (package_with folder) b = IsPackageWith folder b
Fits (class_id id) b = HasClassId id b
Fits (directory_tag tag) b = HasTag tag b
Fits (directory_tag_and_make tag make) b = HasTagAndMake tag make b
Fits (behind_id3 t) b = IsAfterId3 t b
Fits (text_first t) b = Begins t b
Fits (text_first_with t u) b = BeginsAndHas t u b
Fits (text_first_with_all t u v w) b = BeginsAndHasAll t u v w b
Fits (header t far low high) b = HasLaterHeader t far low high b
Fits (first_key k) b = HasFirstKey k b
Fits (first_key_with k v) b = HasFirstKeyWith k v b
Fits animated b = OccursAt b png_header 0 × IsAnimated b
Fits subrip b = IsSubRip b
Fits dbase b = IsDbase b
Fits tar_checksum b = HasTarChecksum b
Fits (program name) b = IsProgram name b
Fits (root name) b = HasRoot name b
Fits (root_with name t) b = HasRootWith name t b
Fits json_lines b = IsJsonLines b
Fits json_text b = IsJson b
Fits plain_text b = IsText b

-- more bytes never take it back: it is none of the texts
abbrev pub is_lasting : Relation → Bool
is_lasting json_lines = false
is_lasting json_text = false
is_lasting plain_text = false
is_lasting other = true

-- a folder that it asks is that of an application
abbrev pub IsSound : Relation → Type 0
IsSound (package_with folder) = IsOneOf folder applications
IsSound other = Unit {0}

-- for each relation, bytes of which such a buffer has one list
abbrev pub lines : Relation → List fixed.Alternative
lines shared_object = at_least 18 (text 16 (0x03 ∷ 0x00 ∷ []) ∷ []) ∷ at_least 18 (text 16 (0x00 ∷ 0x03 ∷ []) ∷ []) ∷ []
lines (first_entry_is name) = named name ∷ []
lines (first_entry_ends_in name) = counted_for name 26
lines (first_entry_has_extra extra) = counted_for extra 28
lines java_archive = named manifest_folder ∷ []
lines (has_entry name) = at_least 4 (text 0 zip_header ∷ []) ∷ []
lines (package_with folder) = named (codes "[Content_Types].xml") ∷ named (codes "_rels/") ∷ named (codes "docProps/") ∷ named folder ∷ []
lines (class_id id) = at_least 8 (text 0 compound_header ∷ []) ∷ []
lines (directory_tag tag) = tiff_lines
lines (directory_tag_and_make tag make) = tiff_lines
lines (behind_id3 t) = at_least 3 (text 0 (codes "ID3") ∷ []) ∷ []
lines (text_first t) = first_lines t
lines (text_first_with t u) = first_lines t
lines (text_first_with_all t u v w) = first_lines t
lines (header t far low high) = at_least 2 (text 0 (codes "MZ") ∷ []) ∷ []
lines (first_key k) = object_outline
lines (first_key_with k v) = object_outline
lines animated = at_least 4 (text 0 png_header ∷ []) ∷ []
lines subrip =
    at_least 2 (byte 0 (between 0x30 0x39) ∷ byte 1 (between 0x30 0x39) ∷ [])
    ∷ at_least 2 (byte 0 (between 0x30 0x39) ∷ byte 1 (any_of (0x0A ∷ 0x0D ∷ [])) ∷ [])
    ∷ at_least 3 (text 0 (0xEF ∷ 0xBB ∷ 0xBF ∷ []) ∷ []) ∷ []
lines dbase = at_least 14 (byte 0 (any_of versions) ∷ text 12 (0x00 ∷ 0x00 ∷ []) ∷ []) ∷ []
lines tar_checksum = digits_after 0 8
lines (program name) = at_least 2 (text 0 (codes "#!") ∷ []) ∷ []
lines (root name) = markup_lines
lines (root_with name t) = markup_lines
lines json_lines = json_outline
lines json_text = json_outline
lines plain_text = at_least 1 (byte 0 (between 0x09 0xFF) ∷ []) ∷ []

-- the relation asks for the root element alone
abbrev pub is_of_root : Relation → Bool
is_of_root (root name) = true
is_of_root (root_with name t) = true
is_of_root other = false

-- the relation asks for plain text
abbrev pub is_plain : Relation → Bool
is_plain plain_text = true
is_plain other = false

-- what fits the relation has one of its lists. Of plain text, that no byte is 256 or more is known
abbrev pub HasLines : Relation → List ℕ → Type 0
HasLines r b = (IsTrue (is_plain r) → (i : ℕ) → slice_index b i < 256) → Fits r b → IsTrue (accepts (lines r) b)

-- a short buffer that fits the relation, as texts at places with zeros between them. A root element stands after the text
-- that is before it
abbrev pub model : List ℕ → Relation → fixed.Alternative
model before shared_object = at_least 46 (text 4 (0x01 ∷ 0x01 ∷ []) ∷ text 16 (0x03 ∷ []) ∷ text 42 (0x20 ∷ 0x00 ∷ 0x01 ∷ []) ∷ [])
model before (first_entry_is name) = model_entry 26 name
model before (first_entry_ends_in end) = model_entry 26 end
model before (first_entry_has_extra extra) = model_entry 28 extra
model before java_archive = model_entry 26 manifest
model before (has_entry name) =
    at_least (78 + length name) (text 0 zip_header ∷ text 48 zip_header ∷ text 74 (length name % 256 ∷ []) ∷ text 78 name ∷ [])
model before (package_with folder) =
    at_least (36 + length folder) (text 0 zip_header ∷ text 6 zip_header ∷ text 30 (codes "_rels/") ∷ text 36 folder ∷ [])
model before (class_id id) =
    at_least 640 (text 0 compound_header ∷ text 26 (0x03 ∷ 0x00 ∷ 0xFE ∷ 0xFF ∷ 0x09 ∷ []) ∷ text 578 (0x05 ∷ []) ∷ text 592 id ∷ [])
model before (directory_tag tag) =
    at_least 20 (text 0 (0x4D ∷ 0x4D ∷ 0x00 ∷ 0x2A ∷ 0x00 ∷ 0x00 ∷ 0x00 ∷ 0x06 ∷ []) ∷ text 8 (tag / 256 ∷ tag % 256 ∷ []) ∷ [])
model before (directory_tag_and_make tag make) =
    at_least (32 + length make)
    (text 0 (0x4D ∷ 0x4D ∷ 0x00 ∷ 0x2A ∷ 0x00 ∷ 0x00 ∷ 0x00 ∷ 0x06 ∷ []) ∷ text 8 (tag / 256 ∷ tag % 256 ∷ []) ∷ text 20 (0x01 ∷ 0x0F ∷ [])
    ∷ text 31 (0x20 ∷ []) ∷ text 32 make ∷ [])
model before (behind_id3 t) = at_least (10 + length t) (text 0 (codes "ID3") ∷ text 10 t ∷ [])
model before (text_first t) = at_least (length t) (text 0 t ∷ [])
model before (text_first_with t u) = at_least (length t + length u) (text 0 t ∷ text (length t) u ∷ [])
model before (text_first_with_all t u v w) =
    at_least (length t + length u + length v + length w)
    (text 0 t ∷ text (length t) u ∷ text (length t + length u) v ∷ text (length t + length u + length v) w ∷ [])
model before (header t far low high) =
    at_least (max (64 + length t) (66 + far)) (text 0 (codes "MZ") ∷ text 60 (0x40 ∷ []) ∷ text 64 t ∷ text (64 + far) (low % 256 ∷ low / 256 ∷ []) ∷ [])
model before (first_key k) = at_least (4 + length k) (text 0 (codes "{\"") ∷ text 2 k ∷ text (2 + length k) (codes "\":") ∷ [])
model before (first_key_with k v) =
    at_least (6 + length k + length v)
    (text 0 (codes "{\"") ∷ text 2 k ∷ text (2 + length k) (codes "\":\"") ∷ text (5 + length k) v ∷ text (5 + length k + length v) (codes "\"") ∷ [])
model before animated = at_least 16 (text 0 png_header ∷ text 12 (codes "acTL") ∷ [])
model before subrip = at_least 31 (text 0 (codes "0\n00:00:00,000 --> 00:00:00,000") ∷ [])
model before dbase =
    at_least 65 (text 0 (0x02 ∷ 0x00 ∷ 0x01 ∷ 0x01 ∷ []) ∷ text 8 (0x41 ∷ 0x00 ∷ 0x02 ∷ []) ∷ text 32 (codes "A") ∷ text 43 (codes "+") ∷ text 64 (0x0D ∷ []) ∷ [])
model before tar_checksum = at_least 512 (text 0 (0x01 ∷ []) ∷ text 148 (codes "401") ∷ [])
model before (program name) = at_least (3 + length name) (text 0 (codes "#!") ∷ text 2 name ∷ text (2 + length name) (codes "\n") ∷ [])
model before (root name) =
    at_least (length before + 2 + length name) (text 0 before ∷ text (length before) (codes "<") ∷ text (length before + 1) name ∷ text (length before + 1 + length name) (codes ">") ∷ [])
model before (root_with name t) =
    at_least (length before + 2 + length name + length t)
    (text 0 before ∷ text (length before) (codes "<") ∷ text (length before + 1) name ∷ text (length before + 1 + length name) (codes " ")
    ∷ text (length before + 2 + length name) t ∷ [])
model before json_lines = at_least 4 (text 0 (codes "[]\n[") ∷ [])
model before json_text = at_least 2 (text 0 (codes "[]") ∷ [])
model before plain_text = at_least 1 (text 0 (codes " ") ∷ [])

-- the least length that it asks
abbrev pub least_of : fixed.Alternative → ℕ
least_of (at_least least parts) = least

-- the text that is put there, as the code has it
abbrev pub text_listed : Text → List ℕ
text_listed (texts.Slice t) = t.now
text_listed (texts.One t) = t
text_listed (texts.Two t) = t
text_listed (texts.Sixteen t) = t

abbrev pub placed_listed : Placed → Part
placed_listed p = text p.place (text_listed p.text)

abbrev pub model_listed : Model → fixed.Alternative
model_listed m = at_least m.least (map placed_listed (take m.count m.texts))
