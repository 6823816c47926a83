use Rattle.infer_more.proofs.Common.{◌<◌, ◌≤◌, IsLeast, IsTried, length, arith, subst}
use Rattle.infer_more.specs.Index.{all_of}
use Rattle.infer_more.proofs.LeastLemmas.{tried_all, tried_none, tried_one_more}
use Rattle.infer_more.proofs.deciding_bytes.rule_out_lists.Goals as goal

pub loop-list-init : goal.loop-list-init
loop-list-init g c = record {
  proves = λ b bytes agrees. (agrees, tried_none c.args.asked.now.parent b c.args.asked.now.least);
  inside = λ of. of;
}

pub loop-list-preserved : goal.loop-list-preserved
loop-list-preserved g c = record {
  proves = λ b bytes agrees.
      let told = c.rule_out_each.ensures.proves b bytes agrees in
      let before = c.loop-list.invariant.proves b bytes told.0 in (
        before.0,
        tried_one_more c.args.asked.now.parent b (λ list. all_of (λ e. g.R.Ruled.rows e b) list.now) c.args.lists.now c.loop-list.list-index _ _ _ _ c.loop-list-test.true before.1
            (subst (λ e. IsLeast (IsTried c.args.asked.now.parent b (all_of (λ e. g.R.Ruled.rows e b) e.now)) c.args.asked.now.least c.args.asked.now.least) c.list-item.is told.1),
      );
  inside = λ of. c.rule_out_each.ensures.inside (c.loop-list.invariant.inside of);
}

pub returns-clause-proves : goal.returns-clause-proves
returns-clause-proves g c = λ b bytes agrees.
    let le : length c.args.lists.now ≤ c.loop-list.list-index = omega arith in
    let before = c.loop-list.invariant.proves b bytes agrees in
    (before.0, tried_all c.args.asked.now.parent b (λ list. all_of (λ e. g.R.Ruled.rows e b) list.now) c.args.lists.now c.loop-list.list-index _ _ le before.1)
