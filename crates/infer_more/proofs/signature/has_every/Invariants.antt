-- the buffer has what each piece so far asks
use Rattle.infer_more.proofs.Common.{◌≡◌, true, take, list_all, has_part, part_listed}
use Rattle.infer_more.proofs.signature.has_every.Given as goal

abbrev pub invariant-loop-piece : goal.invariant-loop-piece
invariant-loop-piece l = list_all (λ piece. has_part l.buf (part_listed piece)) (take l.piece-index l.pieces) ≡ true
