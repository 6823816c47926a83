-- Rows: what is told of the files that a signature accepts.
use Rattle.std.specs.Prelude.{ℕ, List}
use Rattle.infer.specs.BuiltIn.{BuiltIn, IsAccepted}
use Rattle.infer.specs.Triple.{Triple}

-- a triple, and the signature that decides
pub record Row (Signature : Type 0) : Type 0 where
  pub shows : Triple
  pub signature : Signature

-- the built-in row accepts the buffer
abbrev pub Accepts : List ℕ → Row BuiltIn → Type 0
Accepts b r = IsAccepted r.signature b

-- what the row shows
abbrev pub shows : {S : Type 0} → Row S → Triple
shows r = r.shows
