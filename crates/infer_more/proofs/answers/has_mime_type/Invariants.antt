-- none of the rows so far
use Rattle.infer_more.proofs.Common.{◌≡◌, ◌<◌, ℕ, length, HoldsAt, further}
use Rattle.infer_more.proofs.answers.has_mime_type.Given as goal

abbrev pub invariant-loop-i : goal.invariant-loop-i
invariant-loop-i l = (k : ℕ) → k < l.i → ¬ ((k < length further) × HoldsAt (λ r. r.shows.mime_type ≡ l.mime_type) further k)
