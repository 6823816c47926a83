use Rattle.infer_notation.proofs.Common.{◌≡◌, ◌+◌, drop, prefix_len, is_of}
use Rattle.infer_notation.proofs.tokens.run_len.Given as goal

abbrev pub invariant-loop-at : goal.invariant-loop-at
invariant-loop-at l = l.at + prefix_len (is_of l.run) (drop l.at l.text) ≡ prefix_len (is_of l.run) l.text
