-- what is left of the token before the place
use Rattle.infer_formats.proofs.Common.{drop, Onward, left, Integer}
use Rattle.infer_formats.proofs.json.reader.number_end.Given as goal

abbrev pub invariant-loop-i : goal.invariant-loop-i
invariant-loop-i l = Onward (left Integer) (drop l.at l.buf) (left Integer) (drop l.i l.buf)
