-- what is left of the token before the place
use Rattle.infer_formats.proofs.Common.{drop, Onward, left, Chars}
use Rattle.infer_formats.proofs.json.reader.string_end.Given as goal

abbrev pub invariant-loop-i : goal.invariant-loop-i
invariant-loop-i l = Onward (left Chars) (drop l.at l.buf) (left Chars) (drop l.i l.buf)
