use Rattle.infer_evidence.proofs.Common.{arith, subst}
use Rattle.infer_evidence.proofs.ListLemmas.{all_more}
use Rattle.infer_evidence.proofs.weighing.accept.Goals as goal

pub loop-asked-preserved : goal.loop-asked-preserved
loop-asked-preserved g c = record {
  proves = λ b agrees.
      let asked = c.ask_held.ensures.same c.args.buf.now b agrees in
      let before = c.loop-asked.invariant.proves b asked.0 in
      (before.0, before.1, all_more (λ p. g.P.AsPart.asks p b) _ _ _ c.loop-asked-test.true before.2 (subst (λ p. g.P.AsPart.asks p b) c.asked-item.is ((c.part.ensures b).0 (c.held.ensures.proves b asked.1))));
  inside = λ of. c.ask_held.ensures.inside c.args.buf.now (c.loop-asked.invariant.inside of) c.held.ensures.inside;
  few = let before = c.loop-asked.invariant.few in let now = c.ask_held.ensures.few in omega arith;
}
