use Rattle.infer_more.proofs.BelowLemmas.{wider_within}
use Rattle.infer_more.proofs.answers.position.Goals as goal

pub returns-clause-bound : goal.returns-clause-bound
returns-clause-bound c = wider_within c.args.buf.now _ _ c.position.ensures.bound c.widened.ensures
