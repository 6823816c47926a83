use Rattle.infer_notation.proofs.Common.{◌≡◌, ◌++◌, drop, length, map, option_map, take, bytes_in, token_listed}
use Rattle.infer_notation.proofs.items.compound.Given as goal

abbrev pub invariant-loop-at : goal.invariant-loop-at
invariant-loop-at l =
    (length l.id ≡ 16) × (bytes_in (map token_listed l.tokens) ≡ option_map (λ xs. take l.at l.id ++ xs) (bytes_in (map token_listed (drop l.at l.tokens))))
