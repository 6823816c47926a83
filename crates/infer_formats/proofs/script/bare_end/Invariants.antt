-- the bytes from there on are digits and dots
use Rattle.infer_formats.proofs.Common.{ℕ, ◌<◌, ◌≤◌, get_or, IsVersionByte}
use Rattle.infer_formats.proofs.script.bare_end.Given as goal

abbrev pub invariant-loop-end : goal.invariant-loop-end
invariant-loop-end l =
    (l.at ≤ l.end) × (l.end ≤ l.to) × ((k : ℕ) → l.end ≤ k → k < l.to → IsVersionByte (get_or l.buf k 0))

abbrev pub decreases-loop-end : goal.decreases-loop-end
decreases-loop-end l = l.end
