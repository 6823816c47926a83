-- what is left is after some marks
use Rattle.infer_deep.proofs.Common.{length, LeadsTo, IsMark}
use Rattle.infer_deep.proofs.text.after_mark_blocks.Given as goal

abbrev pub invariant-loop-rest : goal.invariant-loop-rest
invariant-loop-rest l = LeadsTo IsMark l.fn.buf l.buf

abbrev pub decreases-loop-rest : goal.decreases-loop-rest
decreases-loop-rest l = length l.buf
