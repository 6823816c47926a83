-- the places before the blocks from here on lack the pair
use Rattle.infer_deep.proofs.Common.{◌*◌, LacksPair}
use Rattle.infer_deep.proofs.places.blocks_free.Given as goal

abbrev pub invariant-loop-k : goal.invariant-loop-k
invariant-loop-k l = LacksPair l.first l.second l.hay (128 * l.k)
