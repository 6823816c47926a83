use Rattle.infer_more.proofs.Common.{◌≡◌, ◌++◌, ℕ, List, Option, Some, drop, map, option_map, Triple, Answers, IsFirstShown, rows_in}
use Rattle.infer_more.specs.Line.{Row}
use Rattle.infer_more.proofs.types.entries.first_of.Given as goal

abbrev pub invariant-loop-entry : goal.invariant-loop-entry
invariant-loop-entry l =
    (lines : List (List ℕ)) (rows : List Row) → rows_in (map (λ e. e.line.now) l.entries ++ lines) ≡ Some rows
    → (more : List Row) × (rows_in (map (λ e. e.line.now) (drop l.entry-index l.entries) ++ lines) ≡ Some more)
    × ((t : Option Triple) → IsFirstShown (Answers (option_map (λ e. e.now) l.extension) l.buf) more t → IsFirstShown (Answers (option_map (λ e. e.now) l.extension) l.buf) rows t)
