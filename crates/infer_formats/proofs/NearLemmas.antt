-- The bits that tell where a byte is in a window.
use Rattle.infer_formats.proofs.Common.{◌≡◌, ◌↔◌, ℕ, zero, suc, ◌<◌, List, [], ◌∷◌, Bool, true, false, eqb, length, get_or, map, refl, sym, ◌∙◌, arith, eq-eqb, eqb-true, false≢true, cond}

says : (x y : ℕ) (t : Bool) → eqb x y ≡ t → (cond {A = ℕ} t 1 0 ≡ 1) ↔ (x ≡ y)
says x y true e = (λ h. eqb-true x y e, λ h. refl)
says x y false e = (λ h. absurd (omega arith), λ h. absurd (false≢true (sym e ∙ eq-eqb x y h)))

pub bit_marked : (y : ℕ) (xs : List ℕ) (k : ℕ)
    → (cond {A = ℕ} (get_or (map (λ x. eqb x y) xs) k false) 1 0 ≡ 1) ↔ ((k < length xs) × (get_or xs k 0 ≡ y))
bit_marked y [] k = (λ h. absurd (omega arith), λ (lt, is). absurd (omega arith))
bit_marked y (x ∷ xs) zero = let t = says x y (eqb x y) refl in (λ h. (omega arith, t.0 h), λ (lt, is). t.1 is)
bit_marked y (x ∷ xs) (suc k) =
    let t = bit_marked y xs k in (λ h. (omega (arith, (t.0 h).0), (t.0 h).1), λ (lt, is). t.1 (omega arith, is))
