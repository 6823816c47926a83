use Rattle.infer_evidence.proofs.Common.{HasAlternative, arith}
use Rattle.infer_evidence.proofs.ListLemmas.{none_more}
use Rattle.infer_evidence.proofs.weighing.refuse_all.Goals as goal

pub loop-alternative-preserved : goal.loop-alternative-preserved
loop-alternative-preserved c = record {
  proves = λ b agrees.
      let refused = c.refuse_one.ensures.proves b agrees in
      let before = c.loop-alternative.invariant.proves b refused.0 in
      (before.0, none_more (HasAlternative b) _ _ _ c.loop-alternative-test.true before.1 refused.1);
  inside = λ of. c.refuse_one.ensures.inside (c.loop-alternative.invariant.inside of);
  few = let before = c.loop-alternative.invariant.few in let now = c.refuse_one.ensures.few in omega arith;
}
