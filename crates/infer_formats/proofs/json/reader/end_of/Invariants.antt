-- what is left of the token before the place
use Rattle.infer_formats.proofs.Common.{drop, Onward, left}
use Rattle.infer_formats.proofs.json.reader.end_of.Given as goal

abbrev pub invariant-loop-i : goal.invariant-loop-i
invariant-loop-i l = Onward (left l.initial.token) (drop l.at l.buf) (left l.token) (drop l.i l.buf)
