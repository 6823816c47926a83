-- none of the bytes so far is it
use Rattle.infer_deep.proofs.Common.{◌≡◌, ◌<◌, ℕ, get_or, OnFalse}
use Rattle.infer_deep.proofs.places.has_byte.Given as goal

abbrev pub invariant-loop-i : goal.invariant-loop-i
invariant-loop-i l = OnFalse l.any ((p : ℕ) → p < l.i → ¬ (get_or l.block p 0 ≡ l.byte))
