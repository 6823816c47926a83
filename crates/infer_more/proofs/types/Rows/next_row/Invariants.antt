use Rattle.infer_more.proofs.Common.{◌≡◌, ◌≤◌, List, Some, option_map, left_size, rows_left}
use Rattle.infer_more.specs.Line.{Row}
use Rattle.infer_more.proofs.types.Rows.next_row.Given as goal

abbrev pub invariant-loop-self : goal.invariant-loop-self
invariant-loop-self l = record {
  same : (rows : List Row) → rows_left (option_map (λ text. text.now) l.fn.self.rest) ≡ Some rows → rows_left (option_map (λ text. text.now) l.self.rest) ≡ Some rows;
  fewer : left_size l.self ≤ left_size l.fn.self;
}

abbrev pub decreases-loop-self : goal.decreases-loop-self
decreases-loop-self l = left_size l.self
