-- the length is some
use Rattle.infer_evidence.proofs.Common.{◌-◌, ◌<◌, length}
use Rattle.infer_evidence.proofs.front.deciding_front.Given as goal

abbrev pub invariant-loop-n : goal.invariant-loop-n
invariant-loop-n g l = 0 < l.n

abbrev pub decreases-loop-n : goal.decreases-loop-n
decreases-loop-n g l = length l.buf - l.n
