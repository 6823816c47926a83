-- what is left is after some white space
use Rattle.infer_deep.proofs.Common.{length, LeadsTo, IsSpace}
use Rattle.infer_deep.proofs.text.after_spaces.Given as goal

abbrev pub invariant-loop-rest : goal.invariant-loop-rest
invariant-loop-rest l = LeadsTo IsSpace l.fn.buf l.buf

abbrev pub decreases-loop-rest : goal.decreases-loop-rest
decreases-loop-rest l = length l.buf
