-- What a clause reads of a watched reader.
use Rattle.std.specs.Prelude.{◌≡◌, ◌<◌, ◌≤◌, ◌⊎◌, ℕ, List, [], ◌++◌, Option, length}
use Rattle.std.specs.Io.KnownBytes.{Consumes}
use Rattle.std.specs.declared.io.ErrorKind.{ErrorKind}
use Rattle.infer.specs.declared.read.watched.Watched.{Watched}

-- the reader inside
abbrev pub inner : {R : Type 0} → Watched R → R
inner w = w.reader

-- the kind of its first error, and none if no read has failed
abbrev pub fault_of : {R : Type 0} → Watched R → Option ErrorKind
fault_of w = w.first_error

-- the last of the pieces that were read is of at most so many bytes, and those before it did not suffice
abbrev pub IsDue : ℕ → (List ℕ → Type 0) → List ℕ → Type 0
IsDue piece Suffices bytes =
    (bytes ≡ []) ⊎ ((short last : List ℕ) × (bytes ≡ short ++ last) × (length last ≤ piece) × (0 < length last) × ¬ Suffices short)

-- of what was left, fewer than n bytes are gone
abbrev pub Loses : ℕ → Option (List ℕ) → Option (List ℕ) → Type 0
Loses n old new = (taken : List ℕ) × (length taken < n) × Consumes old new taken
