use Rattle.infer_deep.proofs.Common.{subst, LacksPair}
use Rattle.infer_deep.proofs.places.places_free.Goals as goal

pub returns-in-Some-clause-lacks : goal.returns-in-Some-clause-lacks
returns-in-Some-clause-lacks c =
    subst (λ b. LacksPair c.args.first c.args.second b c.blocks_free.result) c.in-Some.ensures.cases.same c.blocks_free.ensures.lacks
