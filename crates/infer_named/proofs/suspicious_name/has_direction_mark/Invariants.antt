use Rattle.std.proofs.Common.{◌-◌, ◌<◌, ◌≤◌, ℕ, IsTrue, drop, length}
use Rattle.infer_named.specs.Odd.{begins_with_mark}
use Rattle.infer_named.proofs.suspicious_name.has_direction_mark.Given as goal

-- none begins before
abbrev pub invariant-loop-step : goal.invariant-loop-step
invariant-loop-step l = (l.from ≤ length l.name) × ((k : ℕ) → k < l.from → ¬ IsTrue (begins_with_mark (drop k l.name)))

abbrev pub decreases-loop-step : goal.decreases-loop-step
decreases-loop-step l = length l.name - l.from
