-- whoever agrees so far has none of the rows so far
use Rattle.infer_more.proofs.Common.{take}
use Rattle.infer_evidence.specs.Evidence.{IsOf}
use Rattle.infer_more.specs.Index.{all_of}
use Rattle.infer_more.specs.Evidence.{IsRuledOut, Proves}
use Rattle.infer_more.proofs.deciding_bytes.rule_out_lists.Given as goal

abbrev pub invariant-loop-list : goal.invariant-loop-list
invariant-loop-list g l = record {
  proves : Proves l.fn.evidence l.evidence l.asked.buf.now (λ c. IsRuledOut l.asked (all_of (λ list. all_of (λ e. g.R.Ruled.rows e c) list.now) (take l.list-index l.lists)) c);
  inside : IsOf l.fn.evidence l.asked.buf.now → IsOf l.evidence l.asked.buf.now;
}
