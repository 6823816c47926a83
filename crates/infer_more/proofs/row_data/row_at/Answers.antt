use Rattle.infer_more.proofs.Common.{◌≡◌, ◌∙◌, None, Some, ap, further, is_row_closed, option_map, refl, row_listed, slice_get_past, slice_get_read, sym}
use Rattle.std.proofs.Common.{slice_get}
use Rattle.infer_more.specs.Listed.{rows}
use Rattle.infer_more.proofs.ListedLemmas.{row_read}
use Rattle.infer_more.proofs.ListedRows.{rows_listed}
use Rattle.infer_more.proofs.NamedLemmas.{row_passes}
use Rattle.infer_more.proofs.TableLemmas.{all_closed}
use Rattle.infer_more.proofs.row_data.row_at.Goals as goal

here : (c : goal.In-Some) → slice_get rows c.args.i ≡ Some c.in-Some.row.now
here c = let h = c.in-Some.ensures.lookup in ap (λ l. slice_get l c.args.i) (sym c.all_rows.ensures) ∙ slice_get_read _ _ _ _ refl h.3.0 h.1

listed : (c : goal.In-Some) → Some (row_listed c.in-Some.row.now) ≡ slice_get further c.args.i
listed c = sym (ap (option_map row_listed) (here c)) ∙ row_read c.args.i rows further rows_listed

pub returns-in-Some-clause-listed : goal.returns-in-Some-clause-listed
returns-in-Some-clause-listed c = listed c

pub returns-in-Some-clause-closed : goal.returns-in-Some-clause-closed
returns-in-Some-clause-closed c = row_passes is_row_closed further c.args.i _ all_closed (listed c)

pub returns-in-None-clause-listed : goal.returns-in-None-clause-listed
returns-in-None-clause-listed c =
    let none : slice_get rows c.args.i ≡ None = ap (λ l. slice_get l c.args.i) (sym c.all_rows.ensures) ∙ slice_get_past _ _ c.in-None.ensures.lookup.3 in
    sym (ap (option_map row_listed) none) ∙ row_read c.args.i rows further rows_listed
