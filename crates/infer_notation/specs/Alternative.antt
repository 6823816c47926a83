-- What a signature asks for: alternatives, each of fixed bytes or of a relation.
use Rattle.std.specs.Prelude.{◌⊎◌, ℕ, IsTrue, List, [], ◌∷◌}
use Rattle.infer_formats.specs.Relation as relation
use Rattle.infer_formats.specs.Relation.{Relation}
use Rattle.infer_formats.specs.Text.{IsBinary}
use Rattle.infer_sig.specs.Signature as fixed
use Rattle.infer_sig.specs.Signature.{Part, fits}

-- what one alternative asks of a buffer: bytes at fixed places, these and a byte of binary data, or a relation
pub data Alternative : Type 0 where
  bytes : fixed.Alternative → Alternative
  binary_bytes : fixed.Alternative → Alternative
  related : Relation → Alternative

-- bytes at fixed places, in a buffer of at least that length
abbrev pub at_least : ℕ → List Part → Alternative
at_least n parts = bytes (fixed.at_least n parts)

-- the buffer has what the alternative asks
abbrev pub Fits : Alternative → List ℕ → Type 0
Fits (bytes a) b = IsTrue (fits b a)
Fits (binary_bytes a) b = IsTrue (fits b a) × IsBinary b
Fits (related r) b = relation.Fits r b

-- it fits one of the alternatives
abbrev pub Accepted : List Alternative → List ℕ → Type 0
Accepted [] b = ⊥
Accepted (a ∷ others) b = Fits a b ⊎ Accepted others b
