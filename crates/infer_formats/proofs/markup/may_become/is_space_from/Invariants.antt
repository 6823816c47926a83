-- the bytes so far are white space
use Rattle.infer_formats.proofs.Common.{ℕ, ◌<◌, ◌≤◌, get_or, IsXmlSpace}
use Rattle.infer_formats.proofs.markup.may_become.is_space_from.Given as goal

abbrev pub invariant-loop-at : goal.invariant-loop-at
invariant-loop-at l = (k : ℕ) → l.from ≤ k → k < l.at → IsXmlSpace (get_or l.buf k 0)
