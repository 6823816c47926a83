-- What a look at a whole block of bytes says to a search.
use Rattle.std.specs.Prelude.{◌≡◌, ℕ, ◌+◌, ◌<◌, List, slice_index}

-- the two bytes stand together at p
abbrev pub IsPairAt : ℕ → ℕ → List ℕ → ℕ → Type 0
IsPairAt first second b p = (slice_index b p ≡ first) × (slice_index b (p + 1) ≡ second)

-- they stand together at none of the first n places
abbrev pub LacksPair : ℕ → ℕ → List ℕ → ℕ → Type 0
LacksPair first second b n = (p : ℕ) → p < n → ¬ IsPairAt first second b p

-- each of the first n bytes has the property
abbrev pub AllBelow : (ℕ → Type 0) → List ℕ → ℕ → Type 0
AllBelow P b n = (k : ℕ) → k < n → P (slice_index b k)
