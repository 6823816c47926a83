-- What it means that a text stands at a place, byte by byte.
use Rattle.std.specs.Prelude.{◌≡◌, ℕ, ◌+◌, ◌<◌, List, length, slice_index}

-- each of its places is in the buffer and holds its byte
abbrev pub StandsByPlace : ℕ → List ℕ → List ℕ → Type 0
StandsByPlace place t buf =
    (k : ℕ) → k < length t → (place + k < length buf) × (slice_index buf (place + k) ≡ slice_index t k)
