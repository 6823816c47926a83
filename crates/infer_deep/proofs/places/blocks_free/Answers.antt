use Rattle.infer_deep.proofs.Common.{arith, OnFalse_at}
use Rattle.infer_deep.proofs.SearchLemmas.{lacks_more}
use Rattle.infer_deep.proofs.places.blocks_free.Goals as goal

pub loop-k-preserved : goal.loop-k-preserved
loop-k-preserved c =
    lacks_more _ _ _ _ _ _ (omega arith) (omega arith) c.loop-k.invariant (OnFalse_at c.if-has_pair.false c.has_pair.ensures)

pub returns-clause-lacks : goal.returns-clause-lacks
returns-clause-lacks c =
    lacks_more _ _ _ _ _ _ (omega arith) (omega arith) c.loop-k.invariant (OnFalse_at c.if-has_pair-2.false c.has_pair-2.ensures)
