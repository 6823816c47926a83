-- How many buffers have an answer of a class.
use Rattle.std.specs.Prelude.{ℕ, ◌+◌, List, [], ◌∷◌, ◌++◌, Option}
use Rattle.infer.specs.First.{IsAnswer}
use Rattle.infer.specs.Row.{Accepts}
use Rattle.infer.specs.Table.{table}
use Rattle.infer.specs.Triple.{Triple}
use Rattle.infer.specs.declared.table.file_type.MatcherType.{MatcherType}
use Rattle.infer_uses.specs.Answers.{IsOfClass}

-- one more for each buffer whose answer is of the class, and none for any other
pub data Counts (class : MatcherType) : List (List ℕ) → ℕ → Type 0 where
  no_buffer : Counts class [] 0
  counted : (bs : List (List ℕ)) (b : List ℕ) (n : ℕ) (answer : Option Triple) → Counts class bs n
      → IsAnswer (Accepts b) table answer → IsOfClass class answer → Counts class (bs ++ b ∷ []) (n + 1)
  passed : (bs : List (List ℕ)) (b : List ℕ) (n : ℕ) (answer : Option Triple) → Counts class bs n
      → IsAnswer (Accepts b) table answer → ¬ IsOfClass class answer → Counts class (bs ++ b ∷ []) n
