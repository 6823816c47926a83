-- white space stands at all places so far
use Rattle.infer_formats.proofs.Common.{ℕ, ◌<◌, slice_index, IsXmlSpace}
use Rattle.infer_formats.proofs.markup.may_be_rooted.Given as goal

abbrev pub invariant-loop-place : goal.invariant-loop-place
invariant-loop-place l = (j : ℕ) → j < l.place → IsXmlSpace (slice_index l.buf j)
