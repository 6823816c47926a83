-- What the bytes of a buffer leave open, since more may follow.
use Rattle.std.specs.Prelude.{◌≡◌, ℕ, ◌+◌, ◌<◌, Bool, nat_lt, List, length, slice_index}
use Rattle.std.specs.List.{list_all}

-- each number of the text is a byte
abbrev pub are_bytes : List ℕ → Bool
are_bytes text = list_all (λ x. nat_lt x 256) text

-- b and the text agree from p on, as far as both go
pub record AgreesAt (b text : List ℕ) (p : ℕ) : Type 0 where
  pub reads : (k : ℕ) → k < length text → p + k < length b → slice_index b (p + k) ≡ slice_index text k
