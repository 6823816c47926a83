use Rattle.infer_more.proofs.Common.{◌≡◌, ◌∙◌, None, Some, ap, further, option_map, refl, slice_get_past, slice_get_read, sym}
use Rattle.std.proofs.Common.{slice_get}
use Rattle.infer_more.specs.Listed.{ended_of, rows}
use Rattle.infer_more.proofs.ListedLemmas.{ended_read}
use Rattle.infer_more.proofs.ListedRows.{rows_listed}
use Rattle.infer_more.proofs.row_data.ended_at.Goals as goal

pub returns-in-Some : goal.returns-in-Some
returns-in-Some c =
    let h = c.in-Some.ensures.lookup in
    let here : slice_get rows c.args.i ≡ Some c.in-Some.row.now = ap (λ l. slice_get l c.args.i) (sym c.all_rows.ensures) ∙ slice_get_read _ _ _ _ refl h.3.0 h.1 in
    ap Some c.ended.ensures ∙ sym (ap (option_map ended_of) here) ∙ ended_read c.args.i rows further rows_listed

pub returns-in-None : goal.returns-in-None
returns-in-None c =
    let none : slice_get rows c.args.i ≡ None = ap (λ l. slice_get l c.args.i) (sym c.all_rows.ensures) ∙ slice_get_past _ _ c.in-None.ensures.lookup.3 in
    sym (ap (option_map ended_of) none) ∙ ended_read c.args.i rows further rows_listed
