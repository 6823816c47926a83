use Rattle.infer_more.proofs.Common.{◌<◌, ◌≤◌, length, arith, candidate}
use Rattle.infer_more.proofs.LeastLemmas.{tried_all, tried_none, tried_one_more}
use Rattle.infer_more.proofs.index.search.least_each.Goals as goal

pub loop-entry-init : goal.loop-entry-init
loop-entry-init c = tried_none c.args.parent c.args.buf.now c.args.before

pub loop-entry-preserved : goal.loop-entry-preserved
loop-entry-preserved c =
    let lt : c.loop-entry.entry-index < length c.args.entries.now = omega arith in
    tried_one_more c.args.parent c.args.buf.now (candidate c.args.buf.now) c.args.entries.now c.loop-entry.entry-index _ _ _ _ lt c.loop-entry.invariant c.least_at-least.ensures

pub returns : goal.returns
returns c =
    let le : length c.args.entries.now ≤ c.loop-entry.entry-index = omega arith in
    tried_all c.args.parent c.args.buf.now (candidate c.args.buf.now) c.args.entries.now c.loop-entry.entry-index _ _ le c.loop-entry.invariant
