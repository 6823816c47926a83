-- the number of the digits so far, which is below a power of eight
use Rattle.infer_formats.proofs.Common.{◌≡◌, ◌<◌, ◌^◌, octal}
use Rattle.infer_formats.proofs.tar.octal.Given as goal

abbrev pub invariant-loop-n : goal.invariant-loop-n
invariant-loop-n l = (l.number ≡ octal l.buf l.place l.n) × (l.number < 8 ^ l.n)
