use Rattle.infer_more.proofs.Common.{◌≡◌, Some, ap, sym, IsNamed, named_row}
use Rattle.infer_deep.specs.ClassId.{HasClassId}
use Rattle.infer_more.proofs.LeastLemmas.{least_none, least_same, no_rows, rows_same}
use Rattle.infer_more.proofs.index.search.least_class.Goals as goal

pub returns-in-Some : goal.returns-in-Some
returns-in-Some c =
    let b = c.args.buf.now in
    let ids = c.args.ids.now in
    least_same (IsNamed (λ other. other ≡ c.in-Some.id.now) ids) (IsNamed (λ id. HasClassId id b) ids) c.args.before _
    (rows_same named_row _ _ ids (λ k d lt same. (c.in-Some.ensures _ (c.requires.long k d lt)).1 (ap Some (sym same))))
    (rows_same named_row _ _ ids (λ k d lt has. let names = (c.in-Some.ensures _ (c.requires.long k d lt)).0 has in cc))
    c.least_named.ensures

pub returns-in-None : goal.returns-in-None
returns-in-None c =
    least_none (IsNamed (λ id. HasClassId id c.args.buf.now) c.args.ids.now) c.args.before
    (no_rows named_row _ c.args.ids.now (λ k d lt has. absurd (let names = (c.in-None.ensures _ (c.requires.long k d lt)).0 has in cc)))
