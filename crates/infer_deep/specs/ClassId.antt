-- Compound files, by the class id of their root entry. The places are those of the header and of a directory
-- entry in MS-CFB, sections 2.2 and 2.6.1.
use Rattle.std.specs.Prelude.{◌≡◌, ℕ, ◌+◌, ◌*◌, ◌≤◌, ◌⊎◌, List, [], ◌∷◌, ◌++◌, length, slice_index}
use Rattle.memchr.specs.Find.{OccursAt}
use Rattle.infer_deep.specs.Numbers.{le16, le32}
use Rattle.infer_deep.specs.Open.{AgreesAt}

-- the header's signature
abbrev pub compound_header : List ℕ
compound_header = 0xD0 ∷ 0xCF ∷ 0x11 ∷ 0xE0 ∷ 0xA1 ∷ 0xB1 ∷ 0x1A ∷ 0xE1 ∷ []

-- b begins as a compound file
abbrev pub BeginsCompound : List ℕ → Type 0
BeginsCompound b = OccursAt b compound_header 0

-- the root entry begins at `root`, with the sector that the header names at 48 as the directory's first: the header
-- takes a sector too, and sectors have 512 bytes if the major version at 26 and the sector shift at 30 are 3 and
-- 9, and 4096 if they are 4 and 12
abbrev pub BeginsRoot : List ℕ → ℕ → Type 0
BeginsRoot b root =
    ((le16 b 26 ≡ 3) × (le16 b 30 ≡ 9) × (root ≡ (le32 b 48 + 1) * 512))
    ⊎ ((le16 b 26 ≡ 4) × (le16 b 30 ≡ 12) × (root ≡ (le32 b 48 + 1) * 4096))

-- b is a compound file that has the 128 bytes of the root entry from `root` on, and byte 66 says that it is one
pub record IsRoot (b : List ℕ) (root : ℕ) : Type 0 where
  pub header : OccursAt b compound_header 0
  pub byte_order : OccursAt b (0xFE ∷ 0xFF ∷ []) 28
  pub begins : BeginsRoot b root
  pub whole : root + 128 ≤ length b
  pub kind : slice_index b (root + 66) ≡ 5

-- the root entry has the class id
abbrev pub HasClassId : List ℕ → List ℕ → Type 0
HasClassId id b = (root : ℕ) × IsRoot b root × OccursAt b id (root + 80)

-- what the class ids of Word and Excel end with
abbrev pub id_end : List ℕ
id_end = 0x00 ∷ 0x00 ∷ 0x00 ∷ 0x00 ∷ 0xC0 ∷ 0x00 ∷ 0x00 ∷ 0x00 ∷ 0x00 ∷ 0x00 ∷ 0x00 ∷ 0x46 ∷ []

-- the class id of Word
abbrev pub word_id : List ℕ
word_id = 0x06 ∷ 0x09 ∷ 0x02 ∷ 0x00 ∷ [] ++ id_end

-- the two class ids of Excel
abbrev pub old_excel_id : List ℕ
old_excel_id = 0x10 ∷ 0x08 ∷ 0x02 ∷ 0x00 ∷ [] ++ id_end

abbrev pub excel_id : List ℕ
excel_id = 0x20 ∷ 0x08 ∷ 0x02 ∷ 0x00 ∷ [] ++ id_end

-- the class id of PowerPoint
abbrev pub powerpoint_id : List ℕ
powerpoint_id =
    0x10 ∷ 0x8D ∷ 0x81 ∷ 0x64 ∷ 0x9B ∷ 0x4F ∷ 0xCF ∷ 0x11 ∷ 0x86 ∷ 0xEA ∷ 0x00 ∷ 0xAA ∷ 0x00 ∷ 0xB9 ∷ 0x29 ∷ 0xE8 ∷ []

-- a document of Word
abbrev pub IsDoc : List ℕ → Type 0
IsDoc b = HasClassId word_id b

-- a workbook of Excel
abbrev pub IsXls : List ℕ → Type 0
IsXls b = HasClassId old_excel_id b ⊎ HasClassId excel_id b

-- a presentation of PowerPoint
abbrev pub IsPpt : List ℕ → Type 0
IsPpt b = HasClassId powerpoint_id b

-- the version, the byte order and the sector shift of a header, from 26 on
abbrev pub format_3 : List ℕ
format_3 = 0x03 ∷ 0x00 ∷ 0xFE ∷ 0xFF ∷ 0x09 ∷ 0x00 ∷ []

abbrev pub format_4 : List ℕ
format_4 = 0x04 ∷ 0x00 ∷ 0xFE ∷ 0xFF ∷ 0x0C ∷ 0x00 ∷ []

-- as far as b goes it agrees with the format, and with a root entry that has the class id; bytes of the sector's number
-- that b lacks count as 0, since the entry is past the end of such a b whatever they are
pub record MayHaveRoot (format : List ℕ) (sector_size : ℕ) (id b : List ℕ) : Type 0 where
  pub header : AgreesAt b format 26
  pub kind : AgreesAt b (5 ∷ []) ((le32 b 48 + 1) * sector_size + 66)
  pub says : AgreesAt b id ((le32 b 48 + 1) * sector_size + 80)
