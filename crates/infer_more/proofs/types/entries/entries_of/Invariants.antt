use Rattle.infer_more.proofs.Common.{◌≡◌, ◌+◌, ◌≤◌, ◌++◌, length, map, option_map, take, option_map_or, left_lines, row_lines, lines_of}
use Rattle.infer_more.proofs.types.entries.entries_of.Given as goal

abbrev pub invariant-loop-rest : goal.invariant-loop-rest
invariant-loop-rest l = record {
  room : length l.items ≡ 160;
  few : l.count ≤ 160;
  known : row_lines (lines_of l.text) ≡ map (λ e. e.line.now) (take l.count l.items) ++ row_lines (left_lines (option_map (λ left. left.now) l.rest));
}

abbrev pub decreases-loop-rest : goal.decreases-loop-rest
decreases-loop-rest l = option_map_or (λ left. length left.now + 1) l.rest 0
