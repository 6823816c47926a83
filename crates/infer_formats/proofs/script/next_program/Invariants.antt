-- `env` takes the words so far for itself
use Rattle.infer_formats.proofs.Common.{ℕ, ◌-◌, ◌<◌, ◌≤◌, length, get_or, IsLineEnd, IsSetting, IsWord, IsWordByte}
use Rattle.infer_formats.proofs.script.next_program.Given as goal

abbrev pub invariant-loop-word : goal.invariant-loop-word
invariant-loop-word l =
    (l.fn.place ≤ l.from)
    × (l.from < length l.buf)
    × ((k : ℕ) → 2 ≤ k → k < l.from → ¬ IsLineEnd (get_or l.buf k 0))
    × (¬ IsWordByte (get_or l.buf l.from 0))
    × ((p q : ℕ) → l.fn.place ≤ p → p < l.from → IsWord l.buf p q → IsSetting l.buf p q)

abbrev pub decreases-loop-word : goal.decreases-loop-word
decreases-loop-word l = length l.buf - l.from
