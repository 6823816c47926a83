-- what the pieces so far ask is written, and the others have room
use Rattle.infer_more.proofs.Common.{◌≡◌, IsTrue, drop, length, map, list_all, with_parts, part_listed, is_inside}
use Rattle.infer_more.proofs.samples.put_pieces.Given as goal

abbrev pub invariant-loop-piece : goal.invariant-loop-piece
invariant-loop-piece l =
    (with_parts (map part_listed (drop l.piece-index l.pieces)) l.out ≡ with_parts (map part_listed l.pieces) l.fn.out)
    × IsTrue (list_all (is_inside (length l.out)) (map part_listed (drop l.piece-index l.pieces)))
