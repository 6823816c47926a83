-- there is no such entry before
use Rattle.infer_formats.proofs.Common.{ℕ, ◌-◌, ◌<◌, ◌≤◌, length}
use Rattle.infer_formats.specs.Zip.{IsEntryNamed}
use Rattle.infer_formats.proofs.zip.has_named.Given as goal

abbrev pub invariant-loop-step : goal.invariant-loop-step
invariant-loop-step l = (l.from ≤ length l.buf) × ((p : ℕ) → p < l.from → ¬ IsEntryNamed l.name l.buf p)

abbrev pub decreases-loop-step : goal.decreases-loop-step
decreases-loop-step l = length l.buf - l.from
