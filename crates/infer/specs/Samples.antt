-- A sample of each built-in signature: a short buffer that it accepts.
use Rattle.std.specs.Prelude.{◌≡◌, ◌+◌, ◌-◌, ℕ, List, [], ◌∷◌, ◌++◌, length, take, drop, replicate, codes}
use Rattle.infer_sig.specs.Signature.{Alternative, at_least, Part, text, byte, any_text, Bytes, any_of, between, all_but}
use Rattle.infer_deep.specs.ClassId.{compound_header, word_id, old_excel_id, powerpoint_id}
use Rattle.infer_deep.specs.Office.{zip_header}
use Rattle.infer.specs.BuiltIn.{BuiltIn, fixed, avif, doc, framed, heif, html, matroska, office, pdf, ppt, xls, xml}
use Rattle.infer.specs.Row.{Row}
use Rattle.infer.specs.declared.samples.TheConstants.{SAMPLE_SIZE}

-- a buffer of n zeros
abbrev pub zeros : ℕ → List ℕ
zeros n = replicate n 0

-- the buffer with the text written over it, from the place on
abbrev pub put : ℕ → List ℕ → List ℕ → List ℕ
put place t buf = take place buf ++ (t ++ drop (place + length t) buf)

-- the byte that stands for a set: the first that is listed, the lowest of a range, and otherwise 00
abbrev pub chosen : Bytes → ℕ
chosen (any_of []) = 0
chosen (any_of (x ∷ xs)) = x
chosen (between low high) = low
chosen (all_but x) = 0

-- the buffer with what the part asks, of several texts the first
abbrev pub with_part : Part → List ℕ → List ℕ
with_part (text place t) buf = put place t buf
with_part (any_text place []) buf = buf
with_part (any_text place (t ∷ ts)) buf = put place t buf
with_part (byte place set) buf = put place (chosen set ∷ []) buf

abbrev pub with_parts : List Part → List ℕ → List ℕ
with_parts [] buf = buf
with_parts (part ∷ parts) buf = with_parts parts (with_part part buf)

-- the least length that the first alternative asks, with its parts and zeros
abbrev pub fixed_sample : List Alternative → List ℕ
fixed_sample [] = []
fixed_sample (at_least least parts ∷ others) = with_parts parts (zeros least)

-- a compound file of one sector after the header, with that class id
abbrev pub class_sample : List ℕ → List ℕ
class_sample id =
    put 592 id (put 578 (0x05 ∷ []) (put 30 (0x09 ∷ 0x00 ∷ []) (put 28 (0xFE ∷ 0xFF ∷ [])
    (put 26 (0x03 ∷ 0x00 ∷ []) (put 0 compound_header (zeros 640))))))

-- a box "ftyp" of 16 bytes, which it states, with that major brand
abbrev pub brand_sample : List ℕ → List ℕ
brand_sample brand = put 8 brand (put 4 (codes "ftyp") (put 3 (0x10 ∷ []) (zeros 16)))

abbrev pub sample_of : BuiltIn → List ℕ
sample_of (fixed alternatives) = fixed_sample alternatives
sample_of pdf = codes "%PDF"
sample_of (matroska doc_type) = put 4 doc_type (put 0 (0x1A ∷ 0x45 ∷ 0xDF ∷ 0xA3 ∷ []) (zeros 257))
sample_of (framed magic) = magic
sample_of heif = brand_sample (codes "heic")
sample_of avif = brand_sample (codes "avif")
sample_of (office folder) = zip_header ++ zeros 26 ++ folder
sample_of doc = class_sample word_id
sample_of xls = class_sample old_excel_id
sample_of ppt = class_sample powerpoint_id
sample_of html = codes "<P>"
sample_of xml = codes "<?xml"

-- the buffer begins with the n bytes of the row's sample, and has zeros after it
abbrev pub HoldsSample : ℕ → List ℕ → Row BuiltIn → Type 0
HoldsSample n buf r = (n ≡ length (sample_of r.signature)) × (buf ≡ sample_of r.signature ++ zeros (SAMPLE_SIZE - n))
