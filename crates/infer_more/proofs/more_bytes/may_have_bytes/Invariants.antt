-- the buffer has each piece so far as far as it goes
use Rattle.infer_more.proofs.Common.{◌≡◌, true, take, list_all, may_have, part_listed}
use Rattle.infer_more.specs.Listed.{pieces_of}
use Rattle.infer_more.proofs.more_bytes.may_have_bytes.Given as goal

abbrev pub invariant-loop-piece : goal.invariant-loop-piece
invariant-loop-piece l = list_all (λ piece. may_have l.buf (part_listed piece)) (take l.piece-index (pieces_of l.bytes)) ≡ true
