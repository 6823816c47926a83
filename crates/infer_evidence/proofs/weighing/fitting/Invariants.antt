-- the buffer has none of the alternatives so far
use Rattle.infer_evidence.proofs.Common.{AllWithin, HasAlternative}
use Rattle.infer_evidence.proofs.weighing.fitting.Given as goal

abbrev pub invariant-loop-alternative : goal.invariant-loop-alternative
invariant-loop-alternative l = AllWithin (λ a. ¬ HasAlternative l.buf a) l.signature 0 l.alternative-index
