-- ISO media files, by the brands in the box "ftyp" that they begin with.
use Rattle.std.specs.Prelude.{ℕ, ◌+◌, ◌-◌, ◌*◌, ◌/◌, ◌<◌, ◌≤◌, ◌⊎◌, List, length, codes}
use Rattle.memchr.specs.Find.{OccursAt}
use Rattle.infer_deep.specs.Numbers.{be32}
use Rattle.infer_deep.specs.Open.{AgreesAt}

-- the length that the first box states of itself
abbrev pub box_length : List ℕ → ℕ
box_length b = be32 b 0

-- b has at least 16 bytes and the whole box "ftyp"
pub record IsBoxed (b : List ℕ) : Type 0 where
  pub long : 16 ≤ length b
  pub kind : OccursAt b (codes "ftyp") 4
  pub whole : box_length b ≤ length b

-- b begins with a box "ftyp" that states a length greater than b's
pub record IsOpenBox (b : List ℕ) : Type 0 where
  pub kind : OccursAt b (codes "ftyp") 4
  pub longer : length b < box_length b

-- the brand is the major brand
abbrev pub HasMajor : List ℕ → List ℕ → Type 0
HasMajor brand b = OccursAt b brand 8

-- the brand is a compatible brand, one of the fours of the stated box from place 16 on
abbrev pub HasCompatible : List ℕ → List ℕ → Type 0
HasCompatible brand b = (k : ℕ) × (k < box_length b / 4 - 4) × OccursAt b brand (16 + 4 * k)

-- the brand may be a compatible brand, as far as b goes: it agrees at one of these fours
abbrev pub MayHaveCompatible : List ℕ → List ℕ → Type 0
MayHaveCompatible brand b = (k : ℕ) × (k < box_length b / 4 - 4) × AgreesAt b brand (16 + 4 * k)

-- HEIF: the major brand is heic or heix, or it is mif1 or msf1 and heic is a compatible brand
abbrev pub IsHeif : List ℕ → Type 0
IsHeif b =
    IsBoxed b
    × (HasMajor (codes "heic") b ⊎ HasMajor (codes "heix") b
    ⊎ ((HasMajor (codes "mif1") b ⊎ HasMajor (codes "msf1") b) × HasCompatible (codes "heic") b))

-- AVIF: avif or avis is the major brand or a compatible one
abbrev pub IsAvif : List ℕ → Type 0
IsAvif b =
    IsBoxed b
    × (HasMajor (codes "avif") b ⊎ HasMajor (codes "avis") b
    ⊎ HasCompatible (codes "avif") b ⊎ HasCompatible (codes "avis") b)
