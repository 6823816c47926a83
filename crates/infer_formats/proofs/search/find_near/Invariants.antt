-- no such byte is in the windows so far
use Rattle.infer_formats.proofs.Common.{◌≡◌, ℕ, ◌<◌, ◌≤◌, length, get_or}
use Rattle.infer_formats.proofs.search.find_near.Given as goal

abbrev pub invariant-loop-window : goal.invariant-loop-window
invariant-loop-window l =
    (l.start ≤ l.from) × (l.from ≤ length l.buf) × ((k : ℕ) → l.start ≤ k → k < l.from → ¬ (get_or l.buf k 0 ≡ l.byte))
