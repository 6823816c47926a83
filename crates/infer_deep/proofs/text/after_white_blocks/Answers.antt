use Rattle.infer_deep.proofs.Common.{arith, OnTrue_at}
use Rattle.infer_deep.proofs.TextLemmas.{leads_past_block}
use Rattle.infer_deep.proofs.text.after_white_blocks.Goals as goal

pub loop-block-preserved : goal.loop-block-preserved
loop-block-preserved g c =
    let cut = c.in-Some.ensures.cases in
    leads_past_block _ _ c.in-Some.block.now _ g.row.N c.loop-block.invariant (omega arith) cut.0 cut.1
    (OnTrue_at c.if-not-all_white.false c.all_white.ensures)
