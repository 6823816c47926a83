use Rattle.infer.proofs.ArrivalLemmas.{awaited_newcomer}
use Rattle.infer.proofs.laws.arrival.Goals as goal

pub returns-clause-awaited : goal.returns-clause-awaited
returns-clause-awaited c = awaited_newcomer c.near.ensures c.near-2.ensures c.arrival.ensures.comes c.apart.ensures
