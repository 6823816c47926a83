use Rattle.infer_more.proofs.Common.{subst, sym}
use Rattle.infer_more.proofs.FoundLemmas.{none_below}
use Rattle.infer_more.specs.Wider.{IsWidest}
use Rattle.infer_more.proofs.deciding_bytes.may_widen.Goals as goal

pub returns-in-Nothing : goal.returns-in-Nothing
returns-in-Nothing c =
    λ no. subst IsWidest (sym c.in-Some.is) (none_below c.in-Some.row c.way_below.result.now c.way_below.ensures.finds c.in-Nothing.is)
