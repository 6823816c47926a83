use Rattle.infer_more.proofs.Common.{◌≡◌, ◌+◌, drop, slash_place}
use Rattle.infer_more.proofs.types.names.slash_place.Given as goal

abbrev pub invariant-loop-at : goal.invariant-loop-at
invariant-loop-at l = l.at + slash_place (drop l.at l.text) ≡ slash_place l.text
