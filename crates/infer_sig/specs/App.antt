-- The fixed signatures of programs and their parts, in the order of their rows. docs/sources.tsv lists the documents.
use Rattle.std.specs.Prelude.{List, [], ◌∷◌, ◌++◌, codes}
use Rattle.infer_sig.specs.Signature.{Alternative, at_least, text, byte, any_of, between}

abbrev pub wasm : List Alternative
wasm = at_least 8 (text 0 (0x00 ∷ codes "asm" ++ 0x01 ∷ 0x00 ∷ 0x00 ∷ 0x00 ∷ []) ∷ []) ∷ []

abbrev pub elf : List Alternative
elf = at_least 53 (text 0 (0x7F ∷ codes "ELF") ∷ []) ∷ []

-- that of dynamic libraries too
abbrev pub exe : List Alternative
exe = at_least 2 (text 0 (codes "MZ") ∷ []) ∷ []

-- The four bytes after the magic number are the version, its highest byte first: the lower half of it is at
-- least 45.
abbrev pub java : List Alternative
java = at_least 8 (text 0 (0xCA ∷ 0xFE ∷ 0xBA ∷ 0xBE ∷ []) ∷ byte 7 (between 0x2D 0xFF) ∷ [])
    ∷ at_least 8 (text 0 (0xCA ∷ 0xFE ∷ 0xBA ∷ 0xBE ∷ []) ∷ byte 6 (between 0x01 0xFF) ∷ []) ∷ []

abbrev pub llvm : List Alternative
llvm = at_least 2 (text 0 (codes "BC") ∷ []) ∷ []

-- Of the third kind, which holds several programs, the four bytes after the magic number count them, the
-- highest byte first. They are below 45, which sets these files apart from Java's.
abbrev pub mach : List Alternative
mach = at_least 4 (byte 0 (any_of (0xCF ∷ 0xCE ∷ [])) ∷ text 1 (0xFA ∷ 0xED ∷ 0xFE ∷ []) ∷ [])
    ∷ at_least 4 (text 0 (0xFE ∷ 0xED ∷ 0xFA ∷ []) ∷ byte 3 (any_of (0xCF ∷ 0xCE ∷ [])) ∷ [])
    ∷ at_least 8 (text 0 (0xCA ∷ 0xFE ∷ 0xBA ∷ 0xBE ∷ 0x00 ∷ 0x00 ∷ 0x00 ∷ []) ∷ byte 7 (between 0x00 0x2C) ∷ []) ∷ []

abbrev pub dex : List Alternative
dex = at_least 37 (text 0 (codes "dex" ++ 0x0A ∷ []) ∷ byte 36 (any_of (0x70 ∷ [])) ∷ []) ∷ []

abbrev pub dey : List Alternative
dey = at_least 101
    (text 0 (codes "dey" ++ 0x0A ∷ []) ∷ text 40 (codes "dex" ++ 0x0A ∷ []) ∷ byte 76 (any_of (0x70 ∷ [])) ∷ []) ∷ []

abbrev pub der : List Alternative
der = at_least 3 (text 0 (0x30 ∷ 0x82 ∷ []) ∷ []) ∷ []

abbrev pub coff : List Alternative
coff = at_least 3 (text 0 (0x64 ∷ 0x86 ∷ []) ∷ [])
    ∷ at_least 3 (text 0 (0x4C ∷ 0x01 ∷ []) ∷ [])
    ∷ at_least 3 (text 0 (0x00 ∷ 0x02 ∷ []) ∷ []) ∷ []

abbrev pub coff_x64 : List Alternative
coff_x64 = at_least 3 (text 0 (0x64 ∷ 0x86 ∷ []) ∷ []) ∷ []

abbrev pub coff_i386 : List Alternative
coff_i386 = at_least 3 (text 0 (0x4C ∷ 0x01 ∷ []) ∷ []) ∷ []

abbrev pub coff_ia64 : List Alternative
coff_ia64 = at_least 3 (text 0 (0x00 ∷ 0x02 ∷ []) ∷ []) ∷ []

abbrev pub pem : List Alternative
pem = at_least 12 (text 0 (codes "-----BEGIN ") ∷ []) ∷ []

abbrev pub qcow2 : List Alternative
qcow2 = at_least 5 (text 0 (codes "QFI" ++ 0xFB ∷ []) ∷ []) ∷ []
