use Rattle.infer.proofs.BreakLemmas.{brought_alone}
use Rattle.infer.proofs.laws.breaks.Goals as goal

pub returns-clause-beginnings : goal.returns-clause-beginnings
returns-clause-beginnings c = brought_alone c.by_place.ensures c.apart.ensures
