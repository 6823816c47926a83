-- whoever agrees lacks the alternatives so far
use Rattle.infer_evidence.proofs.Common.{ℕ, List, AllWithin, HasAlternative}
use Rattle.infer_evidence.specs.Evidence.{IsLike}
use Rattle.infer_evidence.proofs.weighing.all_refused_already.Given as goal

abbrev pub invariant-loop-alternative : goal.invariant-loop-alternative
invariant-loop-alternative l = (c : List ℕ) → IsLike l.evidence l.buf c → AllWithin (λ a. ¬ HasAlternative c a) l.signature 0 l.alternative-index
