-- a subset goes on from the beginning as it does from there
use Rattle.infer_formats.proofs.Common.{ℕ, ◌↔◌, ◌-◌, ◌≤◌, length}
use Rattle.infer_formats.specs.Markup.{EndsSubset}
use Rattle.infer_formats.proofs.markup.prolog.subset_end.Given as goal

abbrev pub invariant-loop-place : goal.invariant-loop-place
invariant-loop-place l =
    (l.place ≤ length l.buf) × ((end : ℕ) → EndsSubset l.buf end l.from ↔ EndsSubset l.buf end l.place)

abbrev pub decreases-loop-place : goal.decreases-loop-place
decreases-loop-place l = length l.buf - l.place
