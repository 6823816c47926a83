-- the bytes so far are spaces and tabs
use Rattle.infer_formats.proofs.Common.{ℕ, ◌<◌, ◌≤◌, get_or}
use Rattle.infer_formats.specs.Script.{IsBlank}
use Rattle.infer_formats.proofs.script.blanks_end.Given as goal

abbrev pub invariant-loop-at : goal.invariant-loop-at
invariant-loop-at l = (k : ℕ) → l.place ≤ k → k < l.at → IsBlank (get_or l.buf k 0)
