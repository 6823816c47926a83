-- what is left is after some white space
use Rattle.infer_deep.proofs.Common.{length, LeadsTo, IsSpace}
use Rattle.infer_deep.proofs.text.after_white_blocks.Given as goal

abbrev pub invariant-loop-block : goal.invariant-loop-block
invariant-loop-block g l = LeadsTo IsSpace l.fn.buf l.buf

abbrev pub decreases-loop-block : goal.decreases-loop-block
decreases-loop-block g l = length l.buf
