-- the bytes so far are digits
use Rattle.infer_formats.proofs.Common.{ℕ, ◌+◌, ◌<◌, get_or, IsOctal}
use Rattle.infer_formats.proofs.tar.digit_count.Given as goal

abbrev pub invariant-loop-n : goal.invariant-loop-n
invariant-loop-n l = (k : ℕ) → k < l.n → IsOctal (get_or l.buf (l.place + k) 0)
