-- What more bytes leave open, byte by byte, and what is told of a relation in one pass: whether it holds, and whether bytes
-- after the buffer may bring it.
use Rattle.std.specs.Prelude.{ℕ, ◌↔◌, ◌<◌, All, Bool, IsTrue, List, ◌++◌, Option, MatchOption, length, slice_index}
use Rattle.infer_deep.specs.Signatures.{MayBecome}

-- the byte at p, if b has it, is of the kind
abbrev pub MayBe : (ℕ → Type 0) → List ℕ → ℕ → Type 0
MayBe P b p = p < length b → P (slice_index b p)

-- r is whether b has S, which no bytes after it change; and none only if b has it not
abbrev pub DecidesMayBecome : (List ℕ → Type 0) → List ℕ → Option Bool → Type 0
DecidesMayBecome S b r = MatchOption r (¬ S b) (λ yes. (IsTrue yes ↔ S b) × (MayBecome S b → IsTrue yes))

-- b has S, whatever bytes follow
abbrev pub Stays : (List ℕ → Type 0) → List ℕ → Type 0
Stays S b = (more : List ℕ) → All (λ x. x < 256) more → S (b ++ more)
