-- none of the rows so far may accept
use Rattle.infer.proofs.Common.{◌<◌, ℕ, MayBecomeRow, RowHas}
use Rattle.infer_uses.proofs.gate.none_before_may_become.Given as goal

abbrev pub invariant-loop-i : goal.invariant-loop-i
invariant-loop-i l = (k : ℕ) → k < l.i → ¬ RowHas (MayBecomeRow l.front) k
