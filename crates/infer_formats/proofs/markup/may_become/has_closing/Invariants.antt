-- none stands there so far
use Rattle.infer_formats.proofs.Common.{ℕ, ◌≡◌, ◌<◌, get_or}
use Rattle.infer_formats.proofs.markup.may_become.has_closing.Given as goal

abbrev pub invariant-loop-at : goal.invariant-loop-at
invariant-loop-at l = (k : ℕ) → k < l.at → ¬ (get_or l.text k 0 ≡ 0x3E)
