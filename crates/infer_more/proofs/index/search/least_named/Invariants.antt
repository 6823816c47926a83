-- none so far is the one
use Rattle.infer_more.proofs.Common.{◌≡◌, ℕ, ◌<◌, get_or, Named, name_at}
use Rattle.infer_more.proofs.index.search.least_named.Given as goal

abbrev pub invariant-loop-named : goal.invariant-loop-named
invariant-loop-named l = (j : ℕ) (d : Named) → j < l.named-index → ¬ (name_at (get_or l.names j d).name ≡ l.name)
