-- The buffers so far are counted, and the count is not above their number.
use Rattle.infer.proofs.Common.{◌≤◌, map, take}
use Rattle.infer_uses.specs.Counts.{Counts}
use Rattle.infer_uses.proofs.count.count.Given as goal

abbrev pub invariant-loop-front : goal.invariant-loop-front
invariant-loop-front l = record {
  few : l.count ≤ l.front-index;
  counts : Counts l.class (map (λ front. front.now) (take l.front-index l.fronts)) l.count;
}
