-- none of the rows so far
use Rattle.infer_more.proofs.Common.{◌≡◌, ◌<◌, ℕ, length, HoldsAt, further}
use Rattle.infer_more.proofs.answers.has_extension.Given as goal

abbrev pub invariant-loop-i : goal.invariant-loop-i
invariant-loop-i l = (k : ℕ) → k < l.i → ¬ ((k < length further) × HoldsAt (λ r. r.shows.extension ≡ l.extension) further k)
