use Rattle.infer_more.proofs.Common.{◌≡◌, ◌-◌, None, Some, arith, refl, slice_get_past, slice_get_read, sym}
use Rattle.std.proofs.Common.{slice_get}
use Rattle.infer_more.specs.Listed.{relations}
use Rattle.infer_more.proofs.JoinedLemmas.{found_in}
use Rattle.infer_more.proofs.ListedRows.{length-relations}
use Rattle.infer_more.proofs.row_data.relation_in_lists.Goals as goal

here : (c : goal.In-Some-get) → slice_get c.in-Some.relations.now (c.args.number - c.in-Some.first) ≡ Some c.in-Some-get.relation.now
here c = let h = c.in-Some-get.ensures.lookup in slice_get_read _ _ _ _ refl h.3.0 h.1

pub returns-in-Some-get : goal.returns-in-Some-get
returns-in-Some-get c =
    let list = c.in-Some.ensures.listed in
    found_in c.in-Some.first c.args.number c.in-Some.relations.now (Some c.in-Some-get.relation.now) list.0 list.1 list.2 (here c)

pub returns-in-None : goal.returns-in-None
returns-in-None c =
    let list = c.in-Some.ensures.listed in
    found_in c.in-Some.first c.args.number c.in-Some.relations.now None list.0 list.1 list.2 (slice_get_past _ _ c.in-None.ensures.lookup.3)

pub returns-in_default : goal.returns-in_default
returns-in_default c =
    let all = c.in_default.ensures.all in
    sym (slice_get_past relations c.args.number (omega (arith, length-relations, all)))
