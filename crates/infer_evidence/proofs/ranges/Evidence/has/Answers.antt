use Rattle.infer_evidence.proofs.Common.{Any, IsAround, get_or_default, subst}
use Rattle.infer_evidence.proofs.ranges.Evidence.has.Goals as goal

pub returns-then-is_around : goal.returns-then-is_around
returns-then-is_around c = λ yes. subst (Any (IsAround c.args.range.now)) c.ranges-other-items.ensures
    (c.loop-other.other-index, _, c.loop-other-test.true, get_or_default _ _ _ _ c.loop-other-test.true, c.is_around.ensures c.if-is_around.true)
