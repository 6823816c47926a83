-- the text stands nowhere before
use Rattle.infer_deep.proofs.Common.{ℕ, ◌<◌, ◌≤◌, OccursAt, IsWithin}
use Rattle.infer_deep.proofs.places.search_pairs.Given as goal

abbrev pub invariant-loop-turn : goal.invariant-loop-turn
invariant-loop-turn l =
    (l.start ≤ l.from) × (l.from ≤ l.stop) × ((q : ℕ) → q < l.from → ¬ IsWithin OccursAt l.buf l.text l.start l.end q)
