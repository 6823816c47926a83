use Rattle.infer_more.proofs.Common.{ap, option_map, sym, ◌∙◌, left_lines, row_lines, found_shows, lines_of, rows_in}
use Rattle.infer_more.proofs.EntryLemmas.{left_rows, rows_kept}
use Rattle.infer_more.proofs.types.Types.find.Goals as goal

pub returns-in-Some : goal.returns-in-Some
returns-in-Some c = λ rows e.
    let types = c.args.self.now in
    let left = option_map (λ left. left.now) types.entries.after in
    c.in-Some.ensures (row_lines (left_lines left)) rows (sym (ap rows_in types.known) ∙ rows_kept (lines_of types.text.now) ∙ e)

pub returns-in-None : goal.returns-in-None
returns-in-None c = λ rows e.
    let types = c.args.self.now in
    let left = option_map (λ left. left.now) types.entries.after in
    let more = c.in-None.ensures (row_lines (left_lines left)) rows (sym (ap rows_in types.known) ∙ rows_kept (lines_of types.text.now) ∙ e) in
    more.2 (option_map found_shows c.find_left.result) (c.find_left.ensures more.0 (sym (left_rows left) ∙ more.1))
