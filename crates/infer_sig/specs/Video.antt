-- The fixed signatures of videos, in the order of their rows. docs/sources.tsv lists the documents.
use Rattle.std.specs.Prelude.{ℕ, List, [], ◌∷◌, ◌++◌, codes}
use Rattle.infer_sig.specs.Headers.{riff_header}
use Rattle.infer_sig.specs.Signature.{Alternative, at_least, text, any_text, byte, between}

-- the brands that an MP4 file may name as its major one
abbrev pub mp4_brands : List (List ℕ)
mp4_brands =
    codes "avc1" ∷ codes "dash" ∷ codes "iso2" ∷ codes "iso3" ∷ codes "iso4" ∷ codes "iso5" ∷ codes "iso6"
    ∷ codes "isom" ∷ codes "mmp4" ∷ codes "mp41" ∷ codes "mp42" ∷ codes "mp4v" ∷ codes "mp71" ∷ codes "MSNV"
    ∷ codes "NDAS" ∷ codes "NDSC" ∷ codes "NSDC" ∷ codes "NDSH" ∷ codes "NDSM" ∷ codes "NDSP" ∷ codes "NDSS"
    ∷ codes "NDXC" ∷ codes "NDXH" ∷ codes "NDXM" ∷ codes "NDXP" ∷ codes "NDXS" ∷ codes "F4V " ∷ codes "F4P " ∷ []

abbrev pub mp4 : List Alternative
mp4 = at_least 12 (text 4 (codes "ftyp") ∷ any_text 8 mp4_brands ∷ []) ∷ []

abbrev pub m4v : List Alternative
m4v = at_least 11 (text 4 (codes "ftypM4V") ∷ []) ∷ []

abbrev pub mov : List Alternative
mov = at_least 16 (text 4 (codes "ftypqt  ") ∷ [])
    ∷ at_least 16 (text 4 (codes "moov") ∷ [])
    ∷ at_least 16 (text 4 (codes "mdat") ∷ [])
    ∷ at_least 16 (text 12 (codes "mdat") ∷ []) ∷ []

abbrev pub avi : List Alternative
avi = at_least 11 (text 0 riff_header ∷ text 8 (codes "AVI") ∷ []) ∷ []

abbrev pub wmv : List Alternative
wmv = at_least 10 (text 0 (0x30 ∷ 0x26 ∷ 0xB2 ∷ 0x75 ∷ 0x8E ∷ 0x66 ∷ 0xCF ∷ 0x11 ∷ 0xA6 ∷ 0xD9 ∷ []) ∷ []) ∷ []

abbrev pub mpeg : List Alternative
mpeg = at_least 4 (text 0 (0x00 ∷ 0x00 ∷ 0x01 ∷ []) ∷ byte 3 (between 0xB0 0xBF) ∷ []) ∷ []

abbrev pub flv : List Alternative
flv = at_least 4 (text 0 (codes "FLV" ++ 0x01 ∷ []) ∷ []) ∷ []
