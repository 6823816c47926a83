-- what the rest is past is what all is past
use Rattle.infer_formats.proofs.Common.{ℕ, List, drop, IsPast}
use Rattle.infer_formats.proofs.json.lines.blanks_end.Given as goal

abbrev pub invariant-loop-i : goal.invariant-loop-i
invariant-loop-i l = (t : List ℕ) → IsPast (drop l.i l.buf) t → IsPast (drop l.at l.buf) t
