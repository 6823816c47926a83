-- MP4, by the brands of the box "ftyp" that the file begins with.
use Rattle.std.specs.Prelude.{◌≡◌, ℕ, ◌*◌, ◌%◌, ◌<◌, ◌≤◌, ◌⊎◌, List, codes, length}
use Rattle.memchr.specs.Find.{OccursAt}
use Rattle.infer_deep.specs.Numbers.{be32}

-- the length that the first box states of itself
abbrev pub box_length : List ℕ → ℕ
box_length b = be32 b 0

-- word k of the box, of four bytes, is a brand: the major brand stands after the box's length and name, and the others
-- after its version
abbrev pub IsBrand : ℕ → Type 0
IsBrand k = (k ≡ 2) ⊎ (4 ≤ k)

-- one of the brands begins "mp4"
abbrev pub HasBrand : List ℕ → Type 0
HasBrand b = (k : ℕ) × IsBrand k × (4 * k < box_length b) × OccursAt b (codes "mp4") (4 * k)

-- b has at least 12 bytes, and a whole box "ftyp" of whole words, with such a brand
pub record IsMp4 (b : List ℕ) : Type 0 where
  pub long : 12 ≤ length b
  pub kind : OccursAt b (codes "ftyp") 4
  pub whole : box_length b ≤ length b
  pub words : box_length b % 4 ≡ 0
  pub brand : HasBrand b

-- the same, but that the major brand counts even if the box is said to end before it
pub record IsMp4OfAnyBox (b : List ℕ) : Type 0 where
  pub long : 12 ≤ length b
  pub kind : OccursAt b (codes "ftyp") 4
  pub whole : box_length b ≤ length b
  pub words : box_length b % 4 ≡ 0
  pub brand : OccursAt b (codes "mp4") 8 ⊎ HasBrand b
