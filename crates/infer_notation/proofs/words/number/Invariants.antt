use Rattle.infer_notation.proofs.Common.{◌≡◌, ◌<◌, drop}
use Rattle.infer_notation.specs.Words.{number_after}
use Rattle.infer_notation.proofs.words.number.Given as goal

abbrev pub invariant-loop-digit : goal.invariant-loop-digit
invariant-loop-digit l =
    (l.n < 1_000_000_000) × (number_after l.n (drop l.digit-index l.digits) ≡ number_after 0 l.digits)
