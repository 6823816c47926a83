-- the text stands nowhere before
use Rattle.infer_formats.proofs.Common.{ℕ, ◌<◌, ◌≤◌, length, OccursAt, IsWithin}
use Rattle.infer_formats.proofs.search.find_by.Given as goal

abbrev pub invariant-loop-turn : goal.invariant-loop-turn
invariant-loop-turn l =
    (l.start ≤ l.from) × (l.from ≤ length l.buf) × ((q : ℕ) → q < l.from → ¬ IsWithin OccursAt l.buf l.text l.start (length l.buf) q)
