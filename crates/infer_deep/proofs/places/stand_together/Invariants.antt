-- the pair stands at none of the places so far
use Rattle.infer_deep.proofs.Common.{OnFalse, LacksPair}
use Rattle.infer_deep.proofs.places.stand_together.Given as goal

abbrev pub invariant-loop-i : goal.invariant-loop-i
invariant-loop-i l = OnFalse l.any (LacksPair l.first l.second l.block l.i)
