-- the buffer has each part so far
use Rattle.infer_evidence.proofs.Common.{AllWithin}
use Rattle.infer_evidence.proofs.weighing.lacking.Given as goal

abbrev pub invariant-loop-asked : goal.invariant-loop-asked
invariant-loop-asked g l = AllWithin (λ p. g.P.AsPart.asks p l.buf) l.parts 0 l.asked-index
