-- The fixed signatures of images, in the order of their rows. docs/sources.tsv lists the documents.
use Rattle.std.specs.Prelude.{ℕ, List, [], ◌∷◌, ◌++◌, codes}
use Rattle.infer_deep.specs.Office.{zip_header}
use Rattle.infer_sig.specs.Headers.{big_tiff_header, little_tiff_header}
use Rattle.infer_sig.specs.Signature.{Alternative, at_least, text, any_text, byte, all_but}

abbrev pub jpeg : List Alternative
jpeg = at_least 3 (text 0 (0xFF ∷ 0xD8 ∷ 0xFF ∷ []) ∷ []) ∷ []

abbrev pub jpeg2000 : List Alternative
jpeg2000 = at_least 13 (text 0 (0x00 ∷ 0x00 ∷ 0x00 ∷ 0x0C ∷ codes "jP  " ++ 0x0D ∷ 0x0A ∷ 0x87 ∷ 0x0A ∷ 0x00 ∷ []) ∷ []) ∷ []

abbrev pub png : List Alternative
png = at_least 4 (text 0 (0x89 ∷ codes "PNG") ∷ []) ∷ []

abbrev pub gif : List Alternative
gif = at_least 3 (text 0 (codes "GIF") ∷ []) ∷ []

abbrev pub webp : List Alternative
webp = at_least 12 (text 8 (codes "WEBP") ∷ []) ∷ []

abbrev pub cr2 : List Alternative
cr2 = at_least 11 (text 0 little_tiff_header ∷ text 8 (codes "CR" ++ 0x02 ∷ []) ∷ [])
    ∷ at_least 11 (text 0 big_tiff_header ∷ text 8 (codes "CR" ++ 0x02 ∷ []) ∷ []) ∷ []

-- the two bytes that begin the mark of a CR2 image are refused each by itself
abbrev pub tiff : List Alternative
tiff = at_least 10 (text 0 little_tiff_header ∷ byte 8 (all_but 0x43) ∷ byte 9 (all_but 0x52) ∷ [])
    ∷ at_least 10 (text 0 big_tiff_header ∷ byte 8 (all_but 0x43) ∷ byte 9 (all_but 0x52) ∷ []) ∷ []

abbrev pub bmp : List Alternative
bmp = at_least 2 (text 0 (codes "BM") ∷ []) ∷ []

abbrev pub jxr : List Alternative
jxr = at_least 3 (text 0 (codes "II" ++ 0xBC ∷ []) ∷ []) ∷ []

abbrev pub psd : List Alternative
psd = at_least 4 (text 0 (codes "8BPS") ∷ []) ∷ []

abbrev pub ico : List Alternative
ico = at_least 4 (text 0 (0x00 ∷ 0x00 ∷ 0x01 ∷ 0x00 ∷ []) ∷ []) ∷ []

abbrev pub jxl : List Alternative
jxl = at_least 3 (text 0 (0xFF ∷ 0x0A ∷ []) ∷ [])
    ∷ at_least 13 (text 0 (0x00 ∷ 0x00 ∷ 0x00 ∷ 0x0C ∷ codes "JXL " ++ 0x0D ∷ 0x0A ∷ 0x87 ∷ 0x0A ∷ []) ∷ []) ∷ []

abbrev pub ora : List Alternative
ora = at_least 58 (text 0 zip_header ∷ text 30 (codes "mimetypeimage/openraster") ∷ []) ∷ []

abbrev pub djvu : List Alternative
djvu = at_least 15 (text 0 (codes "AT&TFORM") ∷ text 12 (codes "DJV") ∷ []) ∷ []

-- the versions that a DWG drawing names first
abbrev pub dwg_versions : List (List ℕ)
dwg_versions =
    (codes "MC0.0" ++ 0x00 ∷ []) ∷ (codes "AC1.2" ++ 0x00 ∷ []) ∷ (codes "AC1.3" ++ 0x00 ∷ [])
    ∷ codes "AC1.40" ∷ codes "AC1.50" ∷ codes "AC2.10" ∷ codes "AC2.21" ∷ codes "AC2.22"
    ∷ codes "AC1001" ∷ codes "AC1002" ∷ codes "AC1003" ∷ codes "AC1004" ∷ codes "AC1006" ∷ codes "AC1009"
    ∷ codes "AC1012" ∷ codes "AC1013" ∷ codes "AC1014" ∷ codes "AC1015" ∷ codes "AC1018" ∷ codes "AC1021"
    ∷ codes "AC1024" ∷ codes "AC1027" ∷ codes "AC1032" ∷ codes "AC1035" ∷ []

abbrev pub dwg : List Alternative
dwg = at_least 6 (any_text 0 dwg_versions ∷ []) ∷ []
