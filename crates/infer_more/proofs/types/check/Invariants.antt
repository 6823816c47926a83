use Rattle.std.proofs.Common.{◌≡◌, ◌+◌, ◌≤◌, length, is_some}
use Rattle.infer_more.specs.Text.{lines_before_mistake, lines_of, mistaken_line, rows_of}
use Rattle.infer_more.proofs.types.check.Given as goal

abbrev pub invariant-loop-flaw : goal.invariant-loop-flaw
invariant-loop-flaw l = record {
  same : is_some (rows_of l.rest) ≡ is_some (rows_of l.text);
  line : l.number + lines_before_mistake (lines_of l.rest) ≡ 1 + lines_before_mistake (lines_of l.text);
  mistaken : mistaken_line (lines_of l.rest) ≡ mistaken_line (lines_of l.text);
  few : l.number + length l.rest ≤ length l.text + 1;
}

abbrev pub decreases-loop-flaw : goal.decreases-loop-flaw
decreases-loop-flaw l = length l.rest
