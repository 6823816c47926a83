use Rattle.infer_more.proofs.ShownLemmas.{length-shown, shown_built_in}
use Rattle.infer_more.proofs.laws.numbers.Goals as goal

pub returns-clause-many : goal.returns-clause-many
returns-clause-many c = length-shown c.numbers.ensures.many

pub returns-clause-built_in : goal.returns-clause-built_in
returns-clause-built_in c = shown_built_in c.numbers.ensures.many
