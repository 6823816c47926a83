-- Which bytes of a buffer decide.
use Rattle.std.specs.Prelude.{◌≡◌, ◌+◌, ◌*◌, ◌<◌, ◌≤◌, ◌⊎◌, ℕ, zero, suc, List, Option, None, Some, All, IsTrue, length, slice_index, take}
use Rattle.infer_evidence.specs.declared.ranges.Evidence.{Evidence}
use Rattle.infer_evidence.specs.declared.ranges.Range.{Range}
use Rattle.infer_evidence.specs.declared.ranges.TheConstants.{MOST_RANGES}

-- the ranges that the evidence names
abbrev pub ranges_of : Evidence → List Range
ranges_of e = take e.count e.ranges

-- the place of a byte of the range
abbrev pub place_in : Range → ℕ → ℕ
place_in r k = r.place + k * r.step

-- c has the bytes that b has in the range
abbrev pub IsSame : List ℕ → List ℕ → Range → Type 0
IsSame b c r = (k : ℕ) → k < r.len → (place_in r k < length c) × (slice_index c (place_in r k) ≡ slice_index b (place_in r k))

-- c has the n bytes of b from the place on
abbrev pub HasSame : List ℕ → List ℕ → (place n : ℕ) → Type 0
HasSame b c place n = (k : ℕ) → place ≤ k → k < place + n → (k < length c) × (slice_index c k ≡ slice_index b k)

-- the second range has the bytes of the first and that at the place
pub record Grows (r : Range) (place : ℕ) (s : Range) : Type 0 where
  pub len : s.len ≡ r.len + 1
  pub before : (k : ℕ) → k < r.len → place_in s k ≡ place_in r k
  pub last : place_in s r.len ≡ place

-- the row of which the range tells: it keeps one more than its number, and 0 for none
abbrev pub row_kept : ℕ → Option ℕ
row_kept zero = None
row_kept (suc i) = Some i

abbrev pub row_of : Range → Option ℕ
row_of r = row_kept r.row

-- c agrees with b on the evidence, which has room for all its ranges: it has the same bytes in each of them, the length that
-- is needed at least, and that of b if this is
pub record AgreesOn (e : Evidence) (b c : List ℕ) : Type 0 where
  pub room : e.count ≤ MOST_RANGES
  pub same : All (IsSame b c) (ranges_of e)
  pub long : e.least ≤ length c
  pub exact : IsTrue e.exact → length c ≡ length b

-- c does so, or is b
abbrev pub IsLike : Evidence → List ℕ → List ℕ → Type 0
IsLike e b c = AgreesOn e b c ⊎ (c ≡ b)

-- the range is inside the buffer
abbrev pub IsInside : List ℕ → Range → Type 0
IsInside b r = (k : ℕ) → k < r.len → place_in r k < length b

-- the evidence is of the buffer: its ranges are inside it, and it is as long as is needed
pub record IsOf (e : Evidence) (b : List ℕ) : Type 0 where
  pub inside : All (IsInside b) (ranges_of e)
  pub long : e.least ≤ length b

-- the second range has all bytes of the first
abbrev pub IsAround : Range → Range → Type 0
IsAround inner outer = (k : ℕ) → k < inner.len → (j : ℕ) × (j < outer.len) × (place_in inner k ≡ place_in outer j)
