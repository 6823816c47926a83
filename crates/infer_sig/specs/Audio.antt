-- The fixed signatures of sound, in the order of their rows. docs/sources.tsv lists the documents.
use Rattle.std.specs.Prelude.{List, [], ◌∷◌, ◌++◌, codes}
use Rattle.infer_sig.specs.Headers.{riff_header}
use Rattle.infer_sig.specs.Signature.{Alternative, at_least, text, byte, any_of}

abbrev pub midi : List Alternative
midi = at_least 4 (text 0 (codes "MThd") ∷ []) ∷ []

abbrev pub mp3 : List Alternative
mp3 = at_least 3 (text 0 (codes "ID3") ∷ [])
    ∷ at_least 3 (byte 0 (any_of (0xFF ∷ [])) ∷ byte 1 (any_of (0xFB ∷ 0xF3 ∷ 0xF2 ∷ [])) ∷ []) ∷ []

abbrev pub m4a : List Alternative
m4a = at_least 11 (text 4 (codes "ftypM4A") ∷ [])
    ∷ at_least 11 (text 0 (codes "M4A ") ∷ []) ∷ []

abbrev pub ogg_opus : List Alternative
ogg_opus = at_least 36 (text 0 (codes "OggS") ∷ text 28 (codes "OpusHead") ∷ []) ∷ []

abbrev pub ogg : List Alternative
ogg = at_least 4 (text 0 (codes "OggS") ∷ []) ∷ []

abbrev pub flac : List Alternative
flac = at_least 4 (text 0 (codes "fLaC") ∷ []) ∷ []

abbrev pub wav : List Alternative
wav = at_least 12 (text 0 riff_header ∷ text 8 (codes "WAVE") ∷ []) ∷ []

abbrev pub amr : List Alternative
amr = at_least 12 (text 0 (codes "#!AMR" ++ 0x0A ∷ []) ∷ []) ∷ []

abbrev pub aac : List Alternative
aac = at_least 2 (byte 0 (any_of (0xFF ∷ [])) ∷ byte 1 (any_of (0xF1 ∷ 0xF9 ∷ [])) ∷ []) ∷ []

abbrev pub aiff : List Alternative
aiff = at_least 12 (text 0 (codes "FORM") ∷ text 8 (codes "AIFF") ∷ []) ∷ []

abbrev pub dsf : List Alternative
dsf = at_least 5 (text 0 (codes "DSD ") ∷ []) ∷ []

abbrev pub ape : List Alternative
ape = at_least 5 (text 0 (codes "MAC ") ∷ []) ∷ []
