use Rattle.std.proofs.Common.{◌+◌, ◌≤◌, IsTrue, is_some, length, option_map}
use Rattle.infer_more.specs.Text.{lines_of, rows_of}
use Rattle.infer_more.proofs.AnswerLineLemmas.{Later}
use Rattle.infer_more.proofs.types.find_line.Given as goal

-- the first of the lines to come that answers is the first of all
abbrev pub invariant-loop-after : goal.invariant-loop-after
invariant-loop-after l = record {
  few : l.number + length l.rest ≤ length l.text + 1;
  described : IsTrue (is_some (rows_of l.text)) → IsTrue (is_some (rows_of l.rest));
  later : IsTrue (is_some (rows_of l.text)) → Later (option_map (λ e. e.now) l.extension) l.buf l.number (lines_of l.text) (lines_of l.rest);
}

abbrev pub decreases-loop-after : goal.decreases-loop-after
decreases-loop-after l = length l.rest
