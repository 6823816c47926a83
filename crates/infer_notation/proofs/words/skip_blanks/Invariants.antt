use Rattle.infer_notation.proofs.Common.{◌≡◌, drop, after_blanks}
use Rattle.infer_notation.proofs.words.skip_blanks.Given as goal

abbrev pub invariant-loop-at : goal.invariant-loop-at
invariant-loop-at l = after_blanks (drop l.at l.text) ≡ after_blanks l.text
