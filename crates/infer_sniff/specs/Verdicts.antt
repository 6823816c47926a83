-- What can be said of the answer for a buffer that may go on.
use Rattle.std.specs.Prelude.{◌≡◌, ◌↔◌, ◌≤◌, ℕ, List, ◌++◌, Option, length, option_map, Some}
use Rattle.infer.specs.First.{IsAnswer, IsFirst, IsFirstOf}
use Rattle.infer.specs.Row.{Accepts}
use Rattle.infer.specs.Table.{table}
use Rattle.infer.specs.Triple.{triple_of}
use Rattle.infer.specs.declared.table.file_type.FileType.{FileType}
use Rattle.infer.specs.Arrivals.{Begins, last_after}
use Rattle.infer.specs.Laws.{IsNotLater}
use Rattle.infer.specs.declared.beginnings.Beginning.{Beginning}
use Rattle.infer_sniff.specs.declared.verdict.Verdict.{Verdict}
use Rattle.infer_sniff.specs.declared.verdict.Verdict.TheVariants.{SoFar, Final}

-- the type is that of the first built-in row that accepts the buffer, and none if no row does
abbrev pub IsTypeOf : List ℕ → Option FileType → Type 0
IsTypeOf b answer = IsAnswer (Accepts b) table (option_map triple_of answer)

-- the row is not after the last that can come after a way in which the buffer begins; none comes after all
abbrev pub IsWithinBounds : List ℕ → Option ℕ → Type 0
IsWithinBounds b row = (how : Beginning) → Begins how b → IsNotLater row (Some (last_after how))

-- there are at least 1024 bytes, and the first row that accepts them is within the bounds of the cases that hold
pub record IsSettled (b : List ℕ) : Type 0 where
  pub long : 1024 ≤ length b
  pub within : (row : Option ℕ) → IsFirstOf (Accepts b) table row → IsWithinBounds b row

-- the type in a verdict
abbrev pub found_of : Verdict → Option FileType
found_of (SoFar found) = found
found_of (Final found) = found

-- the verdict is final
abbrev pub IsFinal : Verdict → Type 0
IsFinal (SoFar found) = ⊥
IsFinal (Final found) = Unit {0}

-- the verdict of the buffer
abbrev pub IsVerdict : List ℕ → Verdict → Type 0
IsVerdict b (SoFar answer) = (¬ IsSettled b) × IsTypeOf b answer
IsVerdict b (Final answer) = IsSettled b × IsTypeOf b answer

-- both are final or none is, and they have the same type
abbrev pub AreAlike : Verdict → Verdict → Type 0
AreAlike v w = (IsFinal v ↔ IsFinal w) × (option_map triple_of (found_of v) ≡ option_map triple_of (found_of w))

-- if the verdict is final, its type is that of everything that grows the buffer, and so is the verdict
abbrev pub StaysFinal : List ℕ → Verdict → Type 0
StaysFinal b (SoFar answer) = Unit {0}
StaysFinal b (Final answer) = (more : List ℕ) → IsTypeOf (b ++ more) answer × IsVerdict (b ++ more) (Final answer)

-- the row is the first of everything that grows the buffer, none as none, and that stays settled
abbrev pub RowStaysFinal : List ℕ → Option ℕ → Type 0
RowStaysFinal b row = (more : List ℕ) → IsFirstOf (Accepts (b ++ more)) table row × IsSettled (b ++ more)

-- the verdict stays final from a beginning of the buffer on
abbrev pub StaysFinalFromBeginning : Verdict → List ℕ → Type 0
StaysFinalFromBeginning verdict b = (short more : List ℕ) × (b ≡ short ++ more) × StaysFinal short verdict

-- the case holds of the buffer, and no other does; the buffer is not settled, and more bytes bring the last row that the
-- case can bring, which is not the buffer's own
pub record KeepsOpen (how : Beginning) (b more : List ℕ) : Type 0 where
  pub long : 1024 ≤ length b
  pub holds : Begins how b
  pub alone : (other : Beginning) → Begins other b → other ≡ how
  pub unsettled : ¬ IsSettled b
  pub own : ¬ IsFirst (Accepts b) table (last_after how)
  pub brought : IsFirst (Accepts (b ++ more)) table (last_after how)

-- no case holds of the buffer, which has 1023 bytes, and one byte more changes its first row
pub record IsOneShort (b more : List ℕ) : Type 0 where
  pub short : length b ≡ 1023
  pub one : length more ≡ 1
  pub none : (how : Beginning) → ¬ Begins how b
  pub changes : (row : Option ℕ) → IsFirstOf (Accepts b) table row → ¬ IsFirstOf (Accepts (b ++ more)) table row
