use Rattle.infer.proofs.DecidedLemmas.{decided_by_rows}
use Rattle.infer.proofs.laws.decided.Goals as goal

pub returns : goal.returns
returns c = decided_by_rows c.growth.ensures.every
