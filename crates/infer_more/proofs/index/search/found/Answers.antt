use Rattle.infer_more.proofs.Common.{None, arith, refl}
use Rattle.infer_more.proofs.FoundLemmas.{none_below}
use Rattle.infer_more.proofs.OutlineLemmas.{buffer_of}
use Rattle.infer_more.proofs.index.search.found.Goals as goal

pub returns-in-Nothing : goal.returns-in-Nothing
returns-in-Nothing c =
    let b = c.args.buf.now in
    (None, none_below c.args.row c.way_below.result.now c.way_below.ensures.finds c.in-Nothing.is b (buffer_of b (λ i. omega (arith, c.type_inv.buf i))), refl)
