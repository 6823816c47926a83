use Rattle.infer_notation.proofs.Common.{◌≡◌, drop, map, name_listed, named_in, names, token_listed}
use Rattle.infer_notation.proofs.names.named.Given as goal

abbrev pub invariant-loop-name : goal.invariant-loop-name
invariant-loop-name l = named_in (map name_listed (drop l.name-index l.name-items)) (map token_listed l.tokens) ≡ named_in names (map token_listed l.tokens)
