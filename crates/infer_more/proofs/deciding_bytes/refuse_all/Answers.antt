use Rattle.infer_evidence.proofs.ListLemmas.{all_more}
use Rattle.infer_more.specs.Evidence.{LacksBytes}
use Rattle.infer_more.proofs.deciding_bytes.refuse_all.Goals as goal

pub loop-alternative-preserved : goal.loop-alternative-preserved
loop-alternative-preserved c = record {
  proves = λ b bytes agrees.
      let refused = c.refuse_bytes.ensures.proves b bytes agrees in
      let before = c.loop-alternative.invariant.proves b bytes refused.0 in
      (before.0, all_more (LacksBytes b) _ _ _ c.loop-alternative-test.true before.1 refused.1);
  inside = λ of. c.refuse_bytes.ensures.inside (c.loop-alternative.invariant.inside of);
}
