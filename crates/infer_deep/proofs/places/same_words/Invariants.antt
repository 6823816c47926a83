-- the words so far are those of the text
use Rattle.infer_deep.proofs.Common.{◌≡◌, ◌+◌, ◌-◌, ◌<◌, ℕ, length, get_or}
use Rattle.infer_deep.proofs.places.same_words.Given as goal

abbrev pub decreases-loop-i : goal.decreases-loop-i
decreases-loop-i l = length l.text - l.i

abbrev pub invariant-loop-i : goal.invariant-loop-i
invariant-loop-i l = (j : ℕ) → j < l.i → get_or l.buf (l.place + j) 0 ≡ get_or l.text j 0
