-- whoever agrees so far has none of the alternatives so far
use Rattle.infer_evidence.proofs.Common.{◌+◌, ◌≤◌, ℕ, List, AgreesOn, AllWithin, HasAlternative, IsOf}
use Rattle.infer_evidence.proofs.weighing.refuse_all.Given as goal

abbrev pub invariant-loop-alternative : goal.invariant-loop-alternative
invariant-loop-alternative l = record {
  proves : (b : List ℕ) → AgreesOn l.evidence l.buf b → AgreesOn l.fn.evidence l.buf b × AllWithin (λ a. ¬ HasAlternative b a) l.signature 0 l.alternative-index;
  inside : IsOf l.fn.evidence l.buf → IsOf l.evidence l.buf;
  few : l.evidence.count ≤ l.fn.evidence.count + l.alternative-index;
}
