-- a tag that is led to from the beginning is led to from there, whatever bytes follow
use Rattle.infer_formats.proofs.Common.{ℕ, ◌↔◌, ◌++◌, ◌-◌, ◌≤◌, List, Option, length, get_or, IsXmlSpace, ReachesTag}
use Rattle.infer_formats.proofs.markup.prolog.miscs_end.Given as goal

abbrev pub invariant-loop-place : goal.invariant-loop-place
invariant-loop-place l =
    (l.place ≤ length l.buf)
    × ((d : Option ℕ) (more : List ℕ) (at to : ℕ)
    → ReachesTag (l.buf ++ more) at to l.start d ↔ ReachesTag (l.buf ++ more) at to l.place d)
    × (¬ IsXmlSpace (get_or l.buf l.place 0))

abbrev pub decreases-loop-place : goal.decreases-loop-place
decreases-loop-place l = length l.buf - l.place
