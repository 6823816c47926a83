use Rattle.infer_notation.proofs.Common.{◌≡◌, ◌≤◌, drop, length, bytes_after, bytes_of}
use Rattle.infer_notation.specs.Texts.{added, joined_listed}
use Rattle.infer_notation.proofs.texts.with_bytes.Given as goal

-- with the digits to come, what was joined is all
abbrev pub invariant-loop-digit : goal.invariant-loop-digit
invariant-loop-digit l =
    (length (joined_listed l.joined) ≤ 64)
    × (added (joined_listed l.initial.joined) (bytes_of l.digits) ≡ added (joined_listed l.joined) (bytes_after l.first (drop l.digit-index l.digits)))
