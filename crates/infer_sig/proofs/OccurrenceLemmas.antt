-- What a computation says of a text in a buffer: that it stands at a place, or at none of some places.
use Rattle.infer_deep.proofs.Common.{◌<◌, ◌≤◌, ℕ, zero, suc, ◌+◌, ◌-◌, Bool, true, ◌&&◌, not, ◌↔◌, List, [], ◌∷◌, length, drop, leb, IsTrue, arith, drop-drop, and_parts, and_from, leb-true, le-leb, OccursAt}
use Rattle.infer_sig.specs.Places.{StandsByPlace}
use Rattle.infer_sig.specs.Signature.{stands}
use Rattle.infer_sig.proofs.KnownLemmas.{Known, decided}

pub not_both : (a : Bool) → IsTrue a → ¬ IsTrue (not a)
not_both a h e = grind arith

-- what it means that a text stands at a place
abbrev pub ByPlace : Type 0
ByPlace = (place : ℕ) (t buf : List ℕ) → IsTrue (stands place t buf) ↔ StandsByPlace place t buf

-- the text stands at none of the first n places
abbrev absent : ℕ → List ℕ → List ℕ → Bool
absent zero t b = true
absent (suc n) t [] = not (stands 0 t [])
absent (suc n) t (x ∷ b) = not (stands 0 t (x ∷ b)) && absent n t b

-- at none from s on before e
abbrev pub lacks : ℕ → ℕ → List ℕ → List ℕ → Bool
lacks s e t b = absent (e - s) t (drop s b)

module _ (by_place : ByPlace) (t : List ℕ) where
  pub stands-from : (b : List ℕ) (p : ℕ) → OccursAt b t p → IsTrue (stands p t b)
  stands-from b p o = (by_place p t b).1 (λ k l. let f = o.fits in (omega arith, o.reads k l))

  pub found : (b : List ℕ) (p : ℕ) → IsTrue (leb (p + length t) (length b) && stands p t b) → OccursAt b t p
  found b p h = grind (arith, and_parts, leb-true)

  abbrev pub occurs : (b : List ℕ) (p : ℕ) → Known (OccursAt b t p)
  occurs b p =
      decided (leb (p + length t) (length b) && stands p t b)
      (found b p, λ o. and_from (leb (p + length t) (length b)) _ (le-leb _ _ o.fits) (stands-from b p o))

  not_absent : (n p : ℕ) (b : List ℕ) → p < n → IsTrue (absent n t b) → IsTrue (not (stands p t b))
  unfolding stands
  not_absent zero p b lt e = absurd (omega arith)
  not_absent (suc n) zero [] lt e = e
  not_absent (suc n) (suc p) [] lt e = e
  not_absent (suc n) zero (x ∷ b) lt e = (and_parts (not (stands 0 t (x ∷ b))) (absent n t b) e).0
  not_absent (suc n) (suc p) (x ∷ b) lt e = not_absent n p b (omega arith) (and_parts (not (stands 0 t (x ∷ b))) (absent n t b) e).1

  pub lacked : (b : List ℕ) (s e p : ℕ) → s ≤ p → p < e → IsTrue (lacks s e t b) → ¬ OccursAt b t p
  unfolding stands
  lacked b s e p low high none o = grind (arith, drop-drop (p - s) s b, not_absent (e - s) (p - s) (drop s b), not_both (stands p t b) (stands-from b p o), stands-from b p o)

  pub nowhere_from : (b : List ℕ) (s p : ℕ) → s ≤ p → IsTrue (lacks s (suc (length b)) t b) → ¬ OccursAt b t p
  nowhere_from b s p low none o = let f = o.fits in lacked b s (suc (length b)) p low (omega arith) none o
