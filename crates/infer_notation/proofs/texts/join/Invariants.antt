use Rattle.infer_notation.proofs.Common.{◌≡◌, ◌≤◌, drop, length, map, token_listed, ◌>>=◌}
use Rattle.infer_notation.specs.Texts.{added, in_room, joined_listed, pieces_of}
use Rattle.infer_notation.proofs.texts.join.Given as goal

-- with the pieces to come, what was joined is all
abbrev pub invariant-loop-token : goal.invariant-loop-token
invariant-loop-token l =
    (length (joined_listed l.joined) ≤ 64)
    × ((pieces_of (map token_listed l.tokens) >>= in_room) ≡ added (joined_listed l.joined) (pieces_of (map token_listed (drop l.token-index l.tokens))))
