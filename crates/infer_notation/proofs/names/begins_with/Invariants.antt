use Rattle.infer_notation.proofs.Common.{◌≡◌, drop, map, begins_by, token_listed}
use Rattle.infer_notation.proofs.names.begins_with.Given as goal

abbrev pub invariant-loop-at : goal.invariant-loop-at
invariant-loop-at l =
    begins_by (map token_listed (drop l.at l.tokens)) (map token_listed (drop l.at l.name)) ≡ begins_by (map token_listed l.tokens) (map token_listed l.name)
