-- what is kept is the front of the bytes before and the pieces so far, and grows the bytes before, and the verdict is that of what is kept
use Rattle.infer_sniff.proofs.Common.{◌≡◌, ◌++◌, ℕ, List, map, take, concat, head, IsVerdict, StaysFinal}
use Rattle.infer_sniff.proofs.sniffer.Sniffer.push_all.Given as goal

abbrev pub invariant-loop-piece : goal.invariant-loop-piece
invariant-loop-piece g l =
    (l.self ≡ head 8192 (l.initial.self ++ concat (map (λ piece. piece.now) (take l.piece-index l.pieces))))
    × ((added : List ℕ) × (l.self ≡ l.initial.self ++ added)) × IsVerdict l.self l.verdict × StaysFinal l.self l.verdict
