-- dBASE tables, by their header.
use Rattle.std.specs.Prelude.{◌≡◌, ◌==◌, ℕ, ◌+◌, ◌%◌, ◌≤◌, ◌⊎◌, ◌&&◌, nat_le, if◌then◌else◌, IsTrue, List, [], ◌∷◌, length, codes, slice_index}
use Rattle.std.specs.List.{list_any}
use Rattle.infer_deep.specs.Numbers.{le16}
use Rattle.infer_formats.specs.Open.{MayBe}

-- the byte is one of these
abbrev pub IsOneOf : List ℕ → ℕ → Type 0
IsOneOf bytes x = IsTrue (list_any (λ y. x == y) bytes)

-- the versions
abbrev pub versions : List ℕ
versions = 0x02 ∷ 0x03 ∷ 0x30 ∷ 0x31 ∷ 0x32 ∷ 0x43 ∷ 0x63 ∷ 0x83 ∷ 0x8B ∷ 0xCB ∷ 0xF5 ∷ []

-- how many bytes of the header stand from the end of the fields on: one, and 263 more for Visual FoxPro
abbrev pub after : ℕ → ℕ
after version = if nat_le 0x30 version && nat_le version 0x32 then 264 else 1

-- a letter or "_"
abbrev pub BeginsName : ℕ → Type 0
BeginsName x = ((0x41 ≤ x) × (x ≤ 0x5A)) ⊎ ((0x61 ≤ x) × (x ≤ 0x7A)) ⊎ (x ≡ 0x5F)

-- the header, whose length the two bytes at 8 say, has whole fields of 32 bytes up to e, where 0D ends them
abbrev pub EndsFields : List ℕ → ℕ → Type 0
EndsFields b e =
    (e + after (slice_index b 0) ≡ le16 b 8) × (64 ≤ e) × (e % 32 ≡ 0) × (e + 1 ≤ length b) × (slice_index b e ≡ 0x0D)

-- a version, a month, a day, and two bytes 0
abbrev pub IsDated : List ℕ → Type 0
IsDated b =
    IsOneOf versions (slice_index b 0) × ((0x01 ≤ slice_index b 2) × (slice_index b 2 ≤ 0x0C))
    × ((0x01 ≤ slice_index b 3) × (slice_index b 3 ≤ 0x1F)) × ((slice_index b 12 ≡ 0) × (slice_index b 13 ≡ 0))

-- the first field has a name and a kind
abbrev pub HasField : List ℕ → Type 0
HasField b = BeginsName (slice_index b 32) × IsOneOf (codes "+@BCDFGILMNOPTVXY") (slice_index b 43)

-- the header of a table, whose records have two bytes or more
abbrev pub IsDbase : List ℕ → Type 0
IsDbase b = (65 ≤ length b) × IsDated b × HasField b × (2 ≤ le16 b 10) × ((e : ℕ) × EndsFields b e)

-- what b has of these bytes is dated, or is of the first field
abbrev pub MayBeDated : List ℕ → Type 0
MayBeDated b =
    MayBe (IsOneOf versions) b 0 × MayBe (λ x. (0x01 ≤ x) × (x ≤ 0x0C)) b 2 × MayBe (λ x. (0x01 ≤ x) × (x ≤ 0x1F)) b 3
    × MayBe (λ x. x ≡ 0) b 12 × MayBe (λ x. x ≡ 0) b 13

abbrev pub MayHaveField : List ℕ → Type 0
MayHaveField b = MayBe BeginsName b 32 × MayBe (IsOneOf (codes "+@BCDFGILMNOPTVXY")) b 43

-- what b has of the header is one of a table
pub record MayBeDbase (b : List ℕ) : Type 0 where
  pub dated : MayBeDated b
  pub field : MayHaveField b
  pub many : 12 ≤ length b → 2 ≤ le16 b 10
