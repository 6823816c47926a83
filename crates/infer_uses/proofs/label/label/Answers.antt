use Rattle.infer.proofs.Common.{option_map, rules, triple_of}
use Rattle.infer_uses.proofs.label.label.Goals as goal

pub returns-in-Final-clause-certain : goal.returns-in-Final-clause-certain
returns-in-Final-clause-certain g c = λ unended more.
    (option_map triple_of c.in-Final.found, (c.in-Final.ensures.lasts more).0, search rules)
