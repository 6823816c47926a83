-- What more bytes can change of the answer.
use Rattle.std.specs.Prelude.{◌≡◌, ◌↔◌, ℕ, Bool, ◌<◌, IsTrue, List, [], ◌∷◌, ◌++◌, Option, None, Some, length}
use Rattle.std.specs.List.{AllWithin, HoldsAt}
use Rattle.infer_deep.specs.Signatures.{MayBecome}
use Rattle.infer_sig.specs.Open.{may_become}
use Rattle.infer.specs.Buffer.{IsBuffer}
use Rattle.infer.specs.BuiltIn.{BuiltIn, fixed, IsAccepted}
use Rattle.infer.specs.First.{IsFirst, IsFirstOf}
use Rattle.infer.specs.Leads.{allows_first}
use Rattle.infer.specs.Row.{Row, Accepts}
use Rattle.infer.specs.Table.{table}
use Rattle.infer.specs.Walks.{RowHas}

-- whatever bytes follow, the first row that accepts the buffer, or that none does, stays
abbrev pub IsDecided : List ℕ → Type 0
IsDecided b = (more : List ℕ) (o : Option ℕ) → IsBuffer more → IsFirstOf (Accepts b) table o → IsFirstOf (Accepts (b ++ more)) table o

-- this is the first row that accepts the buffer, or that none does, whatever bytes follow
pub record IsAnswerForGood (b : List ℕ) (o : Option ℕ) : Type 0 where
  pub now : IsFirstOf (Accepts b) table o
  pub decided : IsDecided b

-- some bytes after the buffer make the row accept it
abbrev pub MayBecomeRow : List ℕ → Row BuiltIn → Type 0
MayBecomeRow b r = MayBecome (λ c. Accepts c r) b

-- some bytes after the buffer make row i its answer
abbrev pub MayAnswer : List ℕ → ℕ → Type 0
MayAnswer b i = (more : List ℕ) × IsBuffer more × IsFirst (Accepts (b ++ more)) table i

-- what is decided stays decided, whatever bytes follow
abbrev pub DecidedLasts : Type 0
DecidedLasts = (b more : List ℕ) → IsBuffer more → IsDecided b → IsDecided (b ++ more)

-- a row that may accept a buffer that has grown may accept it before
abbrev pub ReachNarrows : Type 0
ReachNarrows = (b more : List ℕ) (r : Row BuiltIn) → IsBuffer more → MayBecomeRow (b ++ more) r → MayBecomeRow b r

-- the first row that may accept a buffer may be its answer
abbrev pub FirstOpenComes : Type 0
FirstOpenComes = (b : List ℕ) (i : ℕ) → IsFirst (MayBecomeRow b) table i → MayAnswer b i

-- a row that may be the answer may accept the buffer, which no row before it accepts yet
abbrev pub AnswersAreOpen : Type 0
AnswersAreOpen = (b : List ℕ) (i : ℕ) → MayAnswer b i → HoldsAt (MayBecomeRow b) table i × AllWithin (λ r. ¬ Accepts b r) table 0 i

-- some bytes that follow change the first row
abbrev pub IsChangeable : List ℕ → Type 0
IsChangeable b = (more : List ℕ) × IsBuffer more × ((o : Option ℕ) → IsFirstOf (Accepts b) table o → ¬ IsFirstOf (Accepts (b ++ more)) table o)

-- some bytes that follow decide it
abbrev pub CanBeDecided : List ℕ → Type 0
CanBeDecided b = (more : List ℕ) × IsBuffer more × IsDecided (b ++ more)

-- how many rows stand before the answer: all, if it is none
abbrev pub rows_before : Option ℕ → ℕ
rows_before None = length table
rows_before (Some i) = i

-- a buffer is decided exactly if none of the rows before its answer may still accept it
abbrev pub DecidedByRows : Type 0
DecidedByRows =
    (b : List ℕ) (o : Option ℕ) → IsFirstOf (Accepts b) table o → IsDecided b ↔ AllWithin (λ r. ¬ MayBecomeRow b r) table 0 (rows_before o)

-- a row allows a first byte exactly if some bytes after that byte make the row accept
abbrev pub AllowsExactly : Type 0
AllowsExactly = (f i : ℕ) → f < 256 → RowHas (λ r. IsTrue (allows_first r.signature f)) i ↔ RowHas (MayBecomeRow (f ∷ [])) i

-- the answer tells whether the signature may still accept the buffer: of a fixed one, by its parts
abbrev pub DecidesMayBecome : BuiltIn → List ℕ → Bool → Type 0
DecidesMayBecome (fixed alternatives) b r = r ≡ may_become alternatives b
DecidesMayBecome s b r = IsTrue r ↔ MayBecome (IsAccepted s) b

-- and what it tells is exact: some bytes after the buffer make the signature accept
abbrev pub IsDecidedExactly : BuiltIn → Type 0
IsDecidedExactly s = (b : List ℕ) (r : Bool) → DecidesMayBecome s b r → IsTrue r ↔ MayBecome (IsAccepted s) b
