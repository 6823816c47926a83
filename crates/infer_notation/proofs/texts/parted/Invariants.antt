use Rattle.infer_notation.proofs.Common.{◌≡◌, ◌++◌, drop, map, take, token_listed}
use Rattle.infer_notation.specs.Texts.{parted_at}
use Rattle.infer_notation.proofs.texts.parted.Given as goal

-- none of the tokens that were read is the word
abbrev pub invariant-loop-at : goal.invariant-loop-at
invariant-loop-at l =
    parted_at l.word (map token_listed l.tokens)
    ≡ (map token_listed (take l.at l.tokens) ++ (parted_at l.word (map token_listed (drop l.at l.tokens))).0, (parted_at l.word (map token_listed (drop l.at l.tokens))).1)
