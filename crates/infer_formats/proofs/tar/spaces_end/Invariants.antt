-- the bytes so far are spaces
use Rattle.infer_formats.proofs.Common.{◌≡◌, ℕ, ◌<◌, ◌≤◌, get_or}
use Rattle.infer_formats.proofs.tar.spaces_end.Given as goal

abbrev pub invariant-loop-place : goal.invariant-loop-place
invariant-loop-place l = (k : ℕ) → 148 ≤ k → k < l.place → get_or l.buf k 0 ≡ 0x20
