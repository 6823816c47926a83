-- none so far is the one
use Rattle.infer_more.proofs.Common.{◌≡◌, ℕ, ◌<◌, get_or, HasText, Named, name_at}
use Rattle.infer_more.proofs.index.search.least_named_with.Given as goal

abbrev pub invariant-loop-named : goal.invariant-loop-named
invariant-loop-named g l = (j : ℕ) (d : Named) → j < l.named-index → ¬ ((name_at (get_or l.names j d).name ≡ l.name) × HasText (g.B.Beside.has l.beside) (get_or l.names j d).text)
