use Rattle.infer_formats.proofs.Common.{arith, OnTrue_at}
use Rattle.infer_formats.proofs.TextLemmas.{plain_more}
use Rattle.infer_formats.proofs.text.printed_front.Goals as goal

pub loop-k-preserved : goal.loop-k-preserved
loop-k-preserved c =
    plain_more _ 256 _ _ (omega arith) c.loop-k.invariant (OnTrue_at c.if-not-is_printed_block.false c.is_printed_block.ensures)
