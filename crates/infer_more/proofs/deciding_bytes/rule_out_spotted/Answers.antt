use Rattle.infer_more.proofs.Common.{◌<◌, ◌≤◌, length, arith}
use Rattle.infer_more.specs.Index.{tried_at}
use Rattle.infer_more.proofs.LeastLemmas.{tried_all, tried_none, tried_one_more}
use Rattle.infer_more.proofs.deciding_bytes.rule_out_spotted.Goals as goal

pub loop-spot-init : goal.loop-spot-init
loop-spot-init c = record {
  proves = λ b bytes agrees. (agrees, tried_none c.args.asked.now.parent b c.args.asked.now.least);
  inside = λ of. of;
}

pub loop-spot-preserved : goal.loop-spot-preserved
loop-spot-preserved c = record {
  proves = λ b bytes agrees.
      let told = c.rule_out_picked.ensures.proves b bytes agrees in
      let before = c.loop-spot.invariant.proves b bytes told.0 in (
        before.0,
        tried_one_more c.args.asked.now.parent b (tried_at c.args.index.now b) c.args.index.now.spots.now c.loop-spot.spot-index _ _ _ _ c.loop-spot-test.true before.1 told.1,
      );
  inside = λ of. c.rule_out_picked.ensures.inside (c.loop-spot.invariant.inside of);
}

pub returns-clause-proves : goal.returns-clause-proves
returns-clause-proves c = λ b bytes agrees.
    let le : length c.args.index.now.spots.now ≤ c.loop-spot.spot-index = omega arith in
    let before = c.loop-spot.invariant.proves b bytes agrees in
    (before.0, tried_all c.args.asked.now.parent b (tried_at c.args.index.now b) c.args.index.now.spots.now c.loop-spot.spot-index _ _ le before.1)
