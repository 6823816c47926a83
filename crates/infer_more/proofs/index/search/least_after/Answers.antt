use Rattle.infer_more.proofs.LeastLemmas.{least_both}
use Rattle.infer_more.proofs.index.search.least_after.Goals as goal

pub returns : goal.returns
returns c = least_both _ _ c.args.before _ _ c.least_markup-rooted.ensures c.least_object.ensures
