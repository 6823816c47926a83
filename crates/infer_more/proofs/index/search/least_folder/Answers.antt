use Rattle.infer_more.proofs.Common.{OccursAt, IsPackageWith, IsNamed, named_row, name_at}
use Rattle.infer_more.proofs.LeastLemmas.{least_none, least_same, no_rows, rows_same}
use Rattle.infer_more.proofs.index.search.least_folder.Goals as goal

pub returns-in-Some : goal.returns-in-Some
returns-in-Some c =
    let b = c.args.buf.now in
    let folders = c.args.folders.now in
    let place = c.in-Some.place in
    least_same (IsNamed (λ folder. OccursAt b folder place) folders) (IsNamed (λ folder. IsPackageWith folder b) folders) c.args.before _
    (λ i. rows_same named_row _ _ folders (λ k d lt. (c.in-Some.ensures _ (c.requires.application k d lt)).0) i)
    (λ i. rows_same named_row _ _ folders (λ k d lt. (c.in-Some.ensures _ (c.requires.application k d lt)).1) i)
    c.least_folder_at.ensures

pub returns-in-None : goal.returns-in-None
returns-in-None c =
    least_none _ c.args.before (no_rows named_row (λ e. IsPackageWith (name_at e.name) c.args.buf.now) c.args.folders.now
    (λ k d lt. c.in-None.ensures _ (c.requires.application k d lt)))
