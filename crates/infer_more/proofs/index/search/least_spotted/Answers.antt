use Rattle.infer_more.proofs.Common.{◌<◌, ◌≤◌, None, length, arith}
use Rattle.infer_more.specs.Index.{tried_at}
use Rattle.infer_more.proofs.LeastLemmas.{tried_all, tried_none, tried_one_more}
use Rattle.infer_more.proofs.index.search.least_spotted.Goals as goal

pub loop-spot-init : goal.loop-spot-init
loop-spot-init c = tried_none None c.args.buf.now c.args.before

pub loop-spot-preserved : goal.loop-spot-preserved
loop-spot-preserved c =
    let lt : c.loop-spot.spot-index < length c.args.spots.now = omega arith in
    tried_one_more None c.args.buf.now (tried_at c.args.index.now c.args.buf.now) c.args.spots.now c.loop-spot.spot-index _ _ _ _ lt c.loop-spot.invariant c.least_picked-least.ensures

pub returns : goal.returns
returns c =
    let le : length c.args.spots.now ≤ c.loop-spot.spot-index = omega arith in
    tried_all None c.args.buf.now (tried_at c.args.index.now c.args.buf.now) c.args.spots.now c.loop-spot.spot-index _ _ le c.loop-spot.invariant
