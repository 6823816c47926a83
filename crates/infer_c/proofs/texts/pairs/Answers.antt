use Rattle.infer.proofs.Common.{refl, table}
use Rattle.infer_c.proofs.texts.pairs.Goals as goal

pub returns-clause-listed : goal.returns-clause-listed
unfolding table
returns-clause-listed c = refl
