-- the texts so far stand each on a new line
use Rattle.infer_formats.proofs.Common.{[], ◌∷◌, ◌↔◌, length, next_line, CanBe, StartsLine}
use Rattle.infer_formats.proofs.json.lines.begins_line.Given as goal

abbrev pub invariant-loop-rest : goal.invariant-loop-rest
invariant-loop-rest l = (CanBe (next_line ∷ []) l.buf ↔ CanBe (next_line ∷ []) l.rest) × StartsLine l.rest

abbrev pub decreases-loop-rest : goal.decreases-loop-rest
decreases-loop-rest l = length l.rest
