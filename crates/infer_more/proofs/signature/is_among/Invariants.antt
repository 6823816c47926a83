-- none of the bytes so far is this one
use Rattle.infer_more.proofs.Common.{◌≡◌, ◌==◌, false, take, list_any}
use Rattle.infer_more.proofs.signature.is_among.Given as goal

abbrev pub invariant-loop-other : goal.invariant-loop-other
invariant-loop-other l = list_any (λ other. l.byte == other) (take l.other-index l.bytes) ≡ false
