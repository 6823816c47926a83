-- the line goes on to the place
use Rattle.infer_formats.proofs.Common.{drop}
use Rattle.infer_formats.proofs.LineLemmas.{SameLine}
use Rattle.infer_formats.proofs.json.lines.next_line.Given as goal

abbrev pub invariant-loop-at : goal.invariant-loop-at
invariant-loop-at l = SameLine l.buf (drop l.at l.buf)
