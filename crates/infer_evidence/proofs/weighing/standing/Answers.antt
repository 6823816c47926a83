use Rattle.infer_evidence.proofs.Common.{StandsByPlace}
use Rattle.infer_evidence.proofs.ListLemmas.{none_more, refused}
use Rattle.infer_evidence.proofs.weighing.standing.Goals as goal

pub loop-text-preserved : goal.loop-text-preserved
loop-text-preserved c =
    none_more (λ t. StandsByPlace c.args.place t.now c.args.buf.now) _ _ _ c.loop-text-test.true c.loop-text.invariant (refused c.if-stands.false c.stands.ensures)
