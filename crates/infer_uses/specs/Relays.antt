-- What a relay did with a stream.
use Rattle.std.specs.Prelude.{◌≤◌, ◌⊎◌, ℕ, List, Option, length}
use Rattle.std.specs.Io.KnownBytes.{Appends, Consumes, IsAtEnd}
use Rattle.infer.specs.Buffer.{head}
use Rattle.infer.specs.declared.read.head.TheConstants.{FRONT}
use Rattle.infer.specs.declared.table.file_type.FileType.{FileType}
use Rattle.infer_sniff.specs.Verdicts.{IsSettled, IsTypeOf}

-- these bytes were read, and written as they came
pub record IsPassed (left rest held holds : Option (List ℕ)) (bytes : List ℕ) : Type 0 where
  pub taken : Consumes left rest bytes
  pub written : Appends held holds bytes

-- the type is that of the first 8192 bytes, and no more needed to be seen: there are none, or there were so many, or no
-- bytes after them change the type
pub record IsLabelled (rest : Option (List ℕ)) (bytes : List ℕ) (found : Option FileType) : Type 0 where
  pub is_type : IsTypeOf (head FRONT bytes) found
  pub enough : IsAtEnd rest ⊎ (FRONT ≤ length bytes) ⊎ IsSettled (head FRONT bytes)
