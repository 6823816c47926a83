use Rattle.infer_more.specs.Index.{IsFoundByName}
use Rattle.infer_more.proofs.FoundLemmas.{none_dark}
use Rattle.infer_more.proofs.LeastLemmas.{least_none}
use Rattle.infer_more.proofs.index.search.least_past_space.Goals as goal

pub returns-in-None : goal.returns-in-None
returns-in-None c = least_none (IsFoundByName c.args.names.now c.args.buf.now) c.args.before (none_dark c.args.buf.now c.leads.ensures c.args.names.now c.in-None.ensures)
