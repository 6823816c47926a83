-- whoever agrees so far has the least length and the parts so far
use Rattle.infer_evidence.proofs.Common.{◌+◌, ◌≤◌, ℕ, List, length, AgreesOn, AllWithin, IsOf}
use Rattle.infer_evidence.proofs.weighing.accept.Given as goal

abbrev pub invariant-loop-asked : goal.invariant-loop-asked
invariant-loop-asked g l = record {
  proves : (b : List ℕ) → AgreesOn l.evidence l.buf b → AgreesOn l.fn.evidence l.buf b × (l.least ≤ length b) × AllWithin (λ p. g.P.AsPart.asks p b) l.parts 0 l.asked-index;
  inside : IsOf l.fn.evidence l.buf → IsOf l.evidence l.buf;
  few : l.evidence.count ≤ l.fn.evidence.count + l.asked-index;
}
