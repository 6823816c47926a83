use Rattle.infer_more.proofs.Common.{◌<◌, ◌≤◌, IsLeast, IsTried, length, arith, subst}
use Rattle.infer_more.proofs.LeastLemmas.{tried_all, tried_none, tried_one_more}
use Rattle.infer_more.proofs.deciding_bytes.rule_out_each.Goals as goal

pub loop-named-init : goal.loop-named-init
loop-named-init g c = record {
  proves = λ b bytes agrees. (agrees, tried_none c.args.asked.now.parent b c.args.asked.now.least);
  inside = λ of. of;
}

pub loop-named-preserved : goal.loop-named-preserved
loop-named-preserved g c = record {
  proves = λ b bytes agrees.
      let told = c.rule_out.ensures.proves b bytes agrees in
      let before = c.loop-named.invariant.proves b bytes told.0 in (
        before.0,
        tried_one_more c.args.asked.now.parent b (λ e. g.R.Ruled.rows e b) c.args.list.now c.loop-named.named-index _ _ _ _ c.loop-named-test.true before.1
            (subst (λ e. IsLeast (IsTried c.args.asked.now.parent b (g.R.Ruled.rows e b)) c.args.asked.now.least c.args.asked.now.least) c.named-item.is told.1),
      );
  inside = λ of. c.rule_out.ensures.inside (c.loop-named.invariant.inside of);
}

pub returns-clause-proves : goal.returns-clause-proves
returns-clause-proves g c = λ b bytes agrees.
    let le : length c.args.list.now ≤ c.loop-named.named-index = omega arith in
    let before = c.loop-named.invariant.proves b bytes agrees in
    (before.0, tried_all c.args.asked.now.parent b (λ e. g.R.Ruled.rows e b) c.args.list.now c.loop-named.named-index _ _ le before.1)
