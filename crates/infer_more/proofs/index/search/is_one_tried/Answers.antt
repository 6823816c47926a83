use Rattle.infer_more.proofs.Common.{None, sym, ◌∙◌}
use Rattle.infer_more.proofs.LeastLemmas.{none_tried_more}
use Rattle.infer_more.proofs.index.search.is_one_tried.Goals as goal

pub loop-entry-preserved : goal.loop-entry-preserved
loop-entry-preserved c =
    none_tried_more None c.args.buf.now c.args.entries.now c.loop-entry.entry-index _ c.loop-entry-test.true c.loop-entry.invariant
    (sym c.has_byte.ensures ∙ c.if-has_byte.false)
