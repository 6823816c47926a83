use Rattle.infer_notation.proofs.Common.{◌≡◌, ◌≤◌, ◌++◌, drop, length}
use Rattle.infer_notation.specs.Texts.{in_room, joined_listed}
use Rattle.infer_notation.proofs.texts.with_text.Given as goal

-- with the bytes to come, what was joined is all
abbrev pub invariant-loop-byte : goal.invariant-loop-byte
invariant-loop-byte l =
    (length (joined_listed l.joined) ≤ 64)
    × (in_room (joined_listed l.initial.joined ++ l.text) ≡ in_room (joined_listed l.joined ++ drop l.byte-index l.text))
