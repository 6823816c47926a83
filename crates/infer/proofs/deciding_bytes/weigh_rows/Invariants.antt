-- whoever agrees so far has none of the rows so far
use Rattle.infer.proofs.Common.{◌+◌, ◌≤◌, ℕ, List, take, Accepts, AllWithin, IsBuffer, RowHas}
use Rattle.infer_evidence.specs.Evidence.{AgreesOn, IsOf}
use Rattle.infer.specs.Evidence.{most_of_all}
use Rattle.infer.proofs.deciding_bytes.weigh_rows.Given as goal

abbrev pub invariant-loop-row : goal.invariant-loop-row
invariant-loop-row l = record {
  refused : AllWithin (λ i. ¬ RowHas (Accepts l.buf) i) l.rows 0 l.row-index;
  proves : (b : List ℕ) → IsBuffer b → AgreesOn l.evidence l.buf b → AgreesOn l.fn.evidence l.buf b × AllWithin (λ i. ¬ RowHas (Accepts b) i) l.rows 0 l.row-index;
  inside : IsOf l.fn.evidence l.buf → IsOf l.evidence l.buf;
  few : l.evidence.count ≤ l.fn.evidence.count + most_of_all (take l.row-index l.rows);
}
