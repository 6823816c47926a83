-- the bytes so far are white space
use Rattle.infer_formats.proofs.Common.{ℕ, ◌<◌, ◌≤◌, get_or, IsXmlSpace}
use Rattle.infer_formats.proofs.markup.prolog.spaces_end.Given as goal

abbrev pub invariant-loop-end : goal.invariant-loop-end
invariant-loop-end l = (k : ℕ) → l.place ≤ k → k < l.end → IsXmlSpace (get_or l.buf k 0)
