-- no row so far is tried
use Rattle.infer_more.proofs.Common.{[], ◌≡◌, candidates, take}
use Rattle.infer_more.proofs.index.search.is_one_tried.Given as goal

abbrev pub invariant-loop-entry : goal.invariant-loop-entry
invariant-loop-entry l = candidates l.buf (take l.entry-index l.entries) ≡ []
