-- Bytes of one kind that stand side by side, and what follows a byte.
use Rattle.std.specs.Prelude.{◌≡◌, ◌≢◌, ℕ, ◌-◌, ◌<◌, ◌≤◌, List, length, slice_index}

-- the bytes from `from` up to `to` are of the kind, and the next one, which b has, is not
pub record IsRun (P : ℕ → Type 0) (b : List ℕ) (from to : ℕ) : Type 0 where
  pub order : from ≤ to
  pub bytes : (k : ℕ) → from ≤ k → k < to → P (slice_index b k)
  pub whole : to < length b
  pub ends : ¬ P (slice_index b to)

-- from `at` on stands what follows the last x between `from` and `to`, or all that is between them if no x is
pub record IsAfterLast (x : ℕ) (b : List ℕ) (from to at : ℕ) : Type 0 where
  pub low : from ≤ at
  pub high : at ≤ to
  pub begins : from < at → slice_index b (at - 1) ≡ x
  pub last : (k : ℕ) → at ≤ k → k < to → slice_index b k ≢ x

-- the first x from `from` on is at `at`
pub record IsNext (x : ℕ) (b : List ℕ) (from at : ℕ) : Type 0 where
  pub low : from ≤ at
  pub whole : at < length b
  pub is : slice_index b at ≡ x
  pub before : (k : ℕ) → from ≤ k → k < at → slice_index b k ≢ x
