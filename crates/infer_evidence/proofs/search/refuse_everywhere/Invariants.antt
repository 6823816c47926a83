-- whoever agrees so far, and has the bytes that are not asked for yet, has the text at no place so far
use Rattle.infer_evidence.proofs.Common.{◌+◌, ◌-◌, ◌<◌, ◌≤◌, ℕ, List, max, AgreesOn, IsOf, IsSame, OccursAt}
use Rattle.infer_evidence.proofs.SearchLemmas.{EndsBy}
use Rattle.infer_evidence.proofs.search.refuse_everywhere.Given as goal

abbrev pub invariant-loop-start : goal.invariant-loop-start
invariant-loop-start l = record {
  proves : (c : List ℕ) → AgreesOn l.evidence l.buf c → IsSame l.buf c l.run → AgreesOn l.fn.evidence l.buf c × ((p : ℕ) → p < l.start → ¬ OccursAt c l.text p);
  inside : IsOf l.fn.evidence l.buf → IsOf l.evidence l.buf;
  within : EndsBy l.run l.end;
  few : l.evidence.count + 1 ≤ max l.most (l.fn.evidence.count + 1);
}

abbrev pub decreases-loop-start : goal.decreases-loop-start
decreases-loop-start l = l.end - l.start
