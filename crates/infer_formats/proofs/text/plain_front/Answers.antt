use Rattle.infer_formats.proofs.Common.{arith, OnTrue_at}
use Rattle.infer_formats.proofs.TextLemmas.{plain_more}
use Rattle.infer_formats.proofs.text.plain_front.Goals as goal

pub loop-k-preserved : goal.loop-k-preserved
loop-k-preserved c =
    plain_more _ 16 _ _ (omega arith) c.loop-k.invariant (OnTrue_at c.if-not-is_plain_piece.false c.is_plain_piece.ensures.plain)
