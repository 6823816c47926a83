-- What a test says that has parts.
use Rattle.infer_formats.proofs.Common.{◌<◌, ◌||◌, ℕ, Bool, IsTrue, arith, false, not, refl, suc, true, zero}

pub neither : (p q : Bool) → IsTrue (not (p || q)) → IsTrue (not p) × IsTrue (not q)
neither true q e = absurd (cc)
neither false q e = (refl, e)

pub only_first : (P : ℕ → Type 0) → P 0 → (i : ℕ) → i < 1 → P i
only_first P h zero lt = h
only_first P h (suc i) lt = absurd (omega arith)
