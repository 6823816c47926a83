-- the sum of the bytes so far
use Rattle.infer_formats.proofs.Common.{◌≡◌, ◌*◌, ◌≤◌, sum_from}
use Rattle.infer_formats.proofs.tar.sum_from.Given as goal

abbrev pub invariant-loop-n : goal.invariant-loop-n
invariant-loop-n l = (l.total ≡ sum_from l.buf l.place l.n) × (l.total ≤ 255 * l.n)
