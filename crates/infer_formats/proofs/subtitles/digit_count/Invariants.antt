-- the bytes so far are digits
use Rattle.infer_formats.proofs.Common.{AreDigits}
use Rattle.infer_formats.proofs.subtitles.digit_count.Given as goal

abbrev pub invariant-loop-n : goal.invariant-loop-n
invariant-loop-n l = AreDigits l.buf l.place l.n
