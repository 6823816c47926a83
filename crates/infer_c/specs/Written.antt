-- What is written to a caller's buffer.
use Rattle.std.specs.Prelude.{◌≡◌, ◌+◌, ◌-◌, ◌<◌, ◌≤◌, ℕ, List, [], ◌∷◌, ◌++◌, drop, length, take}

-- the bytes were written to the front of the buffer, or they do not fit and nothing was written
pub record WritesWhole (bytes old new : List ℕ) : Type 0 where
  pub fits : length bytes ≤ length old → new ≡ bytes ++ drop (length bytes) old
  pub short : length old < length bytes → new ≡ old

-- the text was written to the front of the buffer and a zero after it; if both do not fit, as much of the text as
-- leaves room for the zero, and nothing if there is no room at all
pub record WritesText (text old new : List ℕ) : Type 0 where
  pub fits : length text < length old → new ≡ text ++ (0 ∷ drop (length text + 1) old)
  pub cut : 0 < length old → length old ≤ length text → new ≡ take (length old - 1) text ++ (0 ∷ [])
  pub none : length old ≡ 0 → new ≡ old
