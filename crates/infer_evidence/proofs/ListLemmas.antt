-- One element of a list more.
use Rattle.infer_evidence.proofs.Common.{◌≡◌, ◌↔◌, ◌+◌, ◌<◌, ℕ, Bool, false, IsTrue, List, length, get_or, subst, sym, ◌∙◌, false≢true, AllWithin, AllWithin-more, get_or_default}

-- a test that fails refutes what it decides
pub refused : {P : Type 0} {r : Bool} → r ≡ false → IsTrue r ↔ P → ¬ P
refused e proves h = false≢true (sym e ∙ proves.1 h)

module _ {A : Type 0} (P : A → Type 0) where
  pub none_more : (xs : List A) (i : ℕ) (d : A) → i < length xs → AllWithin (λ x. ¬ P x) xs 0 i → ¬ P (get_or xs i d)
      → AllWithin (λ x. ¬ P x) xs 0 (i + 1)
  none_more xs i d lt before here = AllWithin-more (λ x. ¬ P x) xs 0 i before (λ e h. here (subst P (get_or_default xs i e d lt) h))

  pub all_more : (xs : List A) (i : ℕ) (d : A) → i < length xs → AllWithin P xs 0 i → P (get_or xs i d) → AllWithin P xs 0 (i + 1)
  all_more xs i d lt before here = AllWithin-more P xs 0 i before (λ e. subst P (get_or_default xs i d e lt) here)
