-- none so far is the one
use Rattle.infer_more.proofs.Common.{ℕ, ◌<◌, get_or, OccursAt, Named, name_at}
use Rattle.infer_more.proofs.index.search.least_folder_at.Given as goal

abbrev pub invariant-loop-named : goal.invariant-loop-named
invariant-loop-named l = (j : ℕ) (d : Named) → j < l.named-index → ¬ OccursAt l.buf (name_at (get_or l.folders j d).name) l.place
