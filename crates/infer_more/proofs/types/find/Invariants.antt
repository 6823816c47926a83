use Rattle.infer_more.proofs.Common.{◌≡◌, List, Option, Some, length, option_map, Triple, Answers, IsFirstShown, rows_of}
use Rattle.infer_more.specs.Line.{Row}
use Rattle.infer_more.proofs.types.find.Given as goal

abbrev pub invariant-loop-found : goal.invariant-loop-found
invariant-loop-found l =
    (rows : List Row) → rows_of l.text ≡ Some rows
    → (more : List Row) × (rows_of l.rest ≡ Some more)
    × ((t : Option Triple) → IsFirstShown (Answers (option_map (λ e. e.now) l.extension) l.buf) more t → IsFirstShown (Answers (option_map (λ e. e.now) l.extension) l.buf) rows t)

abbrev pub decreases-loop-found : goal.decreases-loop-found
decreases-loop-found l = length l.rest
