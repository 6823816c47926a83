-- the text stands at no place so far from which it would end in time
use Rattle.infer_evidence.proofs.Common.{◌+◌, ◌<◌, ◌≤◌, ℕ, length, OccursAt}
use Rattle.infer_evidence.proofs.search.first_place.Given as goal

abbrev pub invariant-loop-place : goal.invariant-loop-place
invariant-loop-place l = (p : ℕ) → p < l.place → p + length l.text ≤ l.end → ¬ OccursAt l.buf l.text p
