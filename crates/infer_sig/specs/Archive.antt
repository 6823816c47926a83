-- The fixed signatures of archives, in the order of their rows. docs/sources.tsv lists the documents.
use Rattle.std.specs.Prelude.{List, [], ◌∷◌, ◌++◌, codes}
use Rattle.infer_deep.specs.ClassId.{compound_header}
use Rattle.infer_deep.specs.Office.{zip_header}
use Rattle.infer_sig.specs.Signature.{Alternative, at_least, text, byte, any_of}

abbrev pub zip : List Alternative
zip = at_least 4 (text 0 zip_header ∷ [])
    ∷ at_least 4 (text 0 (codes "PK" ++ 0x05 ∷ 0x06 ∷ []) ∷ [])
    ∷ at_least 4 (text 0 (codes "PK" ++ 0x07 ∷ 0x08 ∷ []) ∷ [])
    ∷ at_least 8 (text 0 (codes "PK00" ++ zip_header) ∷ []) ∷ []

abbrev pub tar : List Alternative
tar = at_least 262 (text 257 (codes "ustar") ∷ []) ∷ []

abbrev pub par2 : List Alternative
par2 = at_least 9 (text 0 (codes "PAR2" ++ 0x00 ∷ codes "PKT") ∷ []) ∷ []

abbrev pub rar : List Alternative
rar = at_least 7 (text 0 (codes "Rar!" ++ 0x1A ∷ 0x07 ∷ []) ∷ byte 6 (any_of (0x00 ∷ 0x01 ∷ [])) ∷ []) ∷ []

abbrev pub gz : List Alternative
gz = at_least 3 (text 0 (0x1F ∷ 0x8B ∷ 0x08 ∷ []) ∷ []) ∷ []

abbrev pub bz2 : List Alternative
bz2 = at_least 3 (text 0 (codes "BZh") ∷ []) ∷ []

abbrev pub bz3 : List Alternative
bz3 = at_least 5 (text 0 (codes "BZ3v1") ∷ []) ∷ []

abbrev pub seven_z : List Alternative
seven_z = at_least 6 (text 0 (codes "7z" ++ 0xBC ∷ 0xAF ∷ 0x27 ∷ 0x1C ∷ []) ∷ []) ∷ []

abbrev pub xz : List Alternative
xz = at_least 6 (text 0 (0xFD ∷ codes "7zXZ" ++ 0x00 ∷ []) ∷ []) ∷ []

abbrev pub swf : List Alternative
swf = at_least 3 (byte 0 (any_of (codes "CF")) ∷ text 1 (codes "WS") ∷ []) ∷ []

abbrev pub rtf : List Alternative
rtf = at_least 5 (text 0 (0x7B ∷ 0x5C ∷ codes "rtf") ∷ []) ∷ []

abbrev pub eot : List Alternative
eot = at_least 36 (text 8 (0x02 ∷ 0x00 ∷ 0x01 ∷ []) ∷ text 34 (codes "LP") ∷ [])
    ∷ at_least 36 (text 8 (0x01 ∷ 0x00 ∷ 0x00 ∷ []) ∷ text 34 (codes "LP") ∷ [])
    ∷ at_least 36 (text 8 (0x02 ∷ 0x00 ∷ 0x02 ∷ []) ∷ text 34 (codes "LP") ∷ []) ∷ []

abbrev pub ps : List Alternative
ps = at_least 2 (text 0 (codes "%!") ∷ []) ∷ []

abbrev pub sqlite : List Alternative
sqlite = at_least 4 (text 0 (codes "SQLi") ∷ []) ∷ []

abbrev pub nes : List Alternative
nes = at_least 4 (text 0 (codes "NES" ++ 0x1A ∷ []) ∷ []) ∷ []

abbrev pub crx : List Alternative
crx = at_least 4 (text 0 (codes "Cr24") ∷ []) ∷ []

abbrev pub cab : List Alternative
cab = at_least 4 (text 0 (codes "MSCF") ∷ [])
    ∷ at_least 4 (text 0 (codes "ISc(") ∷ []) ∷ []

abbrev pub deb : List Alternative
deb = at_least 21 (text 0 (codes "!<arch>" ++ 0x0A ∷ codes "debian-binary") ∷ []) ∷ []

abbrev pub ar : List Alternative
ar = at_least 7 (text 0 (codes "!<arch>") ∷ []) ∷ []

abbrev pub z : List Alternative
z = at_least 2 (byte 0 (any_of (0x1F ∷ [])) ∷ byte 1 (any_of (0xA0 ∷ 0x9D ∷ [])) ∷ []) ∷ []

abbrev pub lz : List Alternative
lz = at_least 4 (text 0 (codes "LZIP") ∷ []) ∷ []

abbrev pub rpm : List Alternative
rpm = at_least 97 (text 0 (0xED ∷ 0xAB ∷ 0xEE ∷ 0xDB ∷ []) ∷ []) ∷ []

abbrev pub dcm : List Alternative
dcm = at_least 132 (text 128 (codes "DICM") ∷ []) ∷ []

abbrev pub msi : List Alternative
msi = at_least 8 (text 0 compound_header ∷ []) ∷ []

abbrev pub cpio : List Alternative
cpio = at_least 2 (text 0 (0xC7 ∷ 0x71 ∷ []) ∷ [])
    ∷ at_least 2 (text 0 (0x71 ∷ 0xC7 ∷ []) ∷ [])
    ∷ at_least 7 (text 0 (codes "070701") ∷ []) ∷ []
