-- Data after skippable frames.
use Rattle.std.specs.Prelude.{◌≡◌, ℕ, ◌+◌, ◌≤◌, List, [], ◌∷◌, length, slice_index}
use Rattle.memchr.specs.Find.{OccursAt}
use Rattle.infer_deep.specs.Numbers.{le32}
use Rattle.infer_deep.specs.Joined.{After}

-- b begins with a byte from 50 to 5F and then 2A 4D 18, the magic number of a skippable frame
pub record BeginsFrame (b : List ℕ) : Type 0 where
  pub low : 0x50 ≤ slice_index b 0
  pub high : slice_index b 0 ≤ 0x5F
  pub mark : OccursAt b (0x2A ∷ 0x4D ∷ 0x18 ∷ []) 1

-- a skippable frame: its magic number, four bytes with a length, and that many bytes
pub record IsFrame (frame : List ℕ) : Type 0 where
  pub begins : BeginsFrame frame
  pub sized : length frame ≡ 8 + le32 frame 4

-- b is some skippable frames joined, perhaps none, and then a buffer that begins with the magic number
abbrev pub IsFramed : List ℕ → List ℕ → Type 0
IsFramed magic b = After IsFrame (λ rest. OccursAt rest magic 0) b

-- the magic number of Zstandard
abbrev pub zst_magic : List ℕ
zst_magic = 0x28 ∷ 0xB5 ∷ 0x2F ∷ 0xFD ∷ []

-- the magic number of LZ4
abbrev pub lz4_magic : List ℕ
lz4_magic = 0x04 ∷ 0x22 ∷ 0x4D ∷ 0x18 ∷ []

-- b is Zstandard data after skippable frames
abbrev pub IsZst : List ℕ → Type 0
IsZst b = IsFramed zst_magic b

-- b is LZ4 data after skippable frames
abbrev pub IsLz4 : List ℕ → Type 0
IsLz4 b = IsFramed lz4_magic b
