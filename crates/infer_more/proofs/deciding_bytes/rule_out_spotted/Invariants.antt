-- whoever agrees so far has none of the rows so far
use Rattle.infer_more.proofs.Common.{take}
use Rattle.infer_evidence.specs.Evidence.{IsOf}
use Rattle.infer_more.specs.Index.{all_of, tried_at}
use Rattle.infer_more.specs.Evidence.{IsRuledOut, Proves}
use Rattle.infer_more.proofs.deciding_bytes.rule_out_spotted.Given as goal

abbrev pub invariant-loop-spot : goal.invariant-loop-spot
invariant-loop-spot l = record {
  proves : Proves l.fn.evidence l.evidence l.asked.buf.now (λ c. IsRuledOut l.asked (all_of (tried_at l.index c) (take l.spot-index l.index.spots.now)) c);
  inside : IsOf l.fn.evidence l.asked.buf.now → IsOf l.evidence l.asked.buf.now;
}
