-- the bytes so far are those of the text
use Rattle.infer_evidence.proofs.Common.{◌≡◌, ◌-◌, ◌≤◌, ◌<◌, ℕ, get_or}
use Rattle.infer_evidence.proofs.weighing.difference.Given as goal

abbrev pub invariant-loop-k : goal.invariant-loop-k
invariant-loop-k l = (j : ℕ) → l.place ≤ j → j < l.k → get_or l.buf j 0 ≡ get_or l.text (j - l.place) 0
