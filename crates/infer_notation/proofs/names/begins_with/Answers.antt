use Rattle.infer_notation.proofs.Common.{map, sym, arith, length-map, token_listed}
use Rattle.infer_notation.proofs.RelationLemmas.{begins_not}
use Rattle.infer_notation.proofs.names.begins_with.Goals as goal

pub returns-then-name-tokens-clause-value : goal.returns-then-name-tokens-clause-value
returns-then-name-tokens-clause-value c =
    sym (begins_not (map token_listed c.args.tokens.now) (map token_listed c.args.name.now) (let less = c.if-name-tokens.true in omega (arith, length-map c.args.tokens.now token_listed, length-map c.args.name.now token_listed)))
