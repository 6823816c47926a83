use Rattle.infer_more.proofs.Common.{arith}
use Rattle.infer_more.proofs.FoundLemmas.{least_below}
use Rattle.infer_more.proofs.OutlineLemmas.{buffer_of}
use Rattle.infer_more.proofs.index.search.least_in.Goals as goal

pub least_found-requires : goal.least_found-requires
least_found-requires c = c.requires.each.names

pub returns : goal.returns
returns c =
    let b = c.args.buf.now in
    least_below c.args.row _ c.requires.finds b (buffer_of b (λ i. omega (arith, c.type_inv.buf i))) _ c.least_found.ensures
