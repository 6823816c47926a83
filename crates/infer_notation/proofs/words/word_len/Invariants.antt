use Rattle.infer_notation.proofs.Common.{◌≡◌, ◌+◌, drop}
use Rattle.infer_notation.specs.Words.{word_len}
use Rattle.infer_notation.proofs.words.word_len.Given as goal

abbrev pub invariant-loop-at : goal.invariant-loop-at
invariant-loop-at l = l.at + word_len (drop l.at l.text) ≡ word_len l.text
