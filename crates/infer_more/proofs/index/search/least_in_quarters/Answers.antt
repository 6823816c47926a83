use Rattle.infer_more.proofs.Common.{None, IsLeast, IsTried, List, subst}
use Rattle.infer_more.specs.Index.{all_of, tried_at}
use Rattle.infer_more.specs.declared.index.Spot.{Spot}
use Rattle.infer_more.proofs.LeastLemmas.{tried_parts}
use Rattle.infer_more.proofs.index.search.least_in_quarters.Goals as goal

pub returns : goal.returns
returns c =
    let b = c.args.buf.now in
    let tried = tried_at c.args.index.now b in
    let cut = c.split_at.ensures in
    tried_parts None b tried c.args.spots.now _ c.args.before c.least_in_halves-least.result c.least_in_halves.result
    (subst (λ (xs : List Spot). IsLeast (IsTried None b (all_of tried xs)) c.args.before c.least_in_halves-least.result) cut.front c.least_in_halves-least.ensures)
    (subst (λ (xs : List Spot). IsLeast (IsTried None b (all_of tried xs)) c.least_in_halves-least.result c.least_in_halves.result) cut.back c.least_in_halves.ensures)
