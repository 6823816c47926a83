use Rattle.infer_more.proofs.Common.{◌≡◌, ◌≤◌, ◌+◌, Some, ap, arith, length, option_map, sym, subst, ◌∙◌, found_shows, left_size, lines_of, rows_left, rows_of, option_map_or}
use Rattle.infer_more.proofs.TextLemmas.{left_lines, line_less, row_later, row_next}
use Rattle.infer_more.proofs.types.Rows.next_row.Goals as goal

pub returns-in-Some-row_shown-clause-next : goal.returns-in-Some-row_shown-clause-next
returns-in-Some-row_shown-clause-next c = λ rows e.
    let text = c.in-Some.text.now in
    let line = c.next_line.result.0.now in
    let whole : rows_of text ≡ Some rows = ap (λ o. rows_left (option_map (λ t. t.now) o)) (sym c.in-Some.is) ∙ c.loop-self.invariant.same rows e in
    let lines = left_lines (lines_of text) line c.next_line.result.1 (length text) c.next_line.ensures in
    row_next text line lines.0 rows (rows_left (option_map (λ t. t.now) c.next_line.result.1)) lines.1 whole lines.2 (found_shows c.in-Some-row_shown.found) c.in-Some-row_shown.ensures

pub loop-self-preserved : goal.loop-self-preserved
loop-self-preserved c = record {
  same = λ rows e.
      let text = c.in-Some.text.now in
      let line = c.next_line.result.0.now in
      let whole : rows_of text ≡ Some rows = ap (λ o. rows_left (option_map (λ t. t.now) o)) (sym c.in-Some.is) ∙ c.loop-self.invariant.same rows e in
      let lines = left_lines (lines_of text) line c.next_line.result.1 (length text) c.next_line.ensures in
      row_later text line lines.0 rows (rows_left (option_map (λ t. t.now) c.next_line.result.1)) lines.1 whole lines.2 c.in_default-row_shown.ensures;
  fewer =
      let less = line_less (lines_of c.in-Some.text.now) c.next_line.result.0.now c.next_line.result.1 (length c.in-Some.text.now) c.next_line.ensures in
      let most = subst (λ o. option_map_or (λ t. length t.now + 1) o 0 ≤ left_size c.args.self.now) c.in-Some.is c.loop-self.invariant.fewer in
      omega arith;
}
