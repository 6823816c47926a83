-- the byte does not stand from there on
use Rattle.infer_formats.proofs.Common.{◌≡◌, ℕ, ◌<◌, ◌≤◌, get_or}
use Rattle.infer_formats.proofs.runs.after_last.Given as goal

abbrev pub invariant-loop-at : goal.invariant-loop-at
invariant-loop-at l = (l.from ≤ l.at) × (l.at ≤ l.to) × ((k : ℕ) → l.at ≤ k → k < l.to → ¬ (get_or l.buf k 0 ≡ l.byte))

abbrev pub decreases-loop-at : goal.decreases-loop-at
decreases-loop-at l = l.at
