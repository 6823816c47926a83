-- what is left is after some frames
use Rattle.infer_deep.proofs.Common.{length, LeadsTo, IsFrame}
use Rattle.infer_deep.proofs.archive.after_any_frames.Given as goal

abbrev pub invariant-loop-rest : goal.invariant-loop-rest
invariant-loop-rest l = LeadsTo IsFrame l.fn.buf l.buf

abbrev pub decreases-loop-rest : goal.decreases-loop-rest
decreases-loop-rest l = length l.buf
