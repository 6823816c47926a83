-- What `any` answers of numbers, and of a list that is mapped.
use Rattle.infer_deep.proofs.Common.{List, map, ap, ◌↔◌, ◌<◌, Bool, true, false, IsTrue, MatchBool, ℕ, length, get_or, sym, subst, ◌∙◌, arith, get_or_default, length-map, Any, AllWithin, HoldsAt, range_with_len, get_or-range_with_len, length-range_with_len}
use Rattle.std.proofs.lemmas.List.{get_or-map}

-- what `any` answered of the numbers below n
pub any_below : (P : ℕ → Type 0) (n : ℕ) (r : Bool)
    → MatchBool r ((k : ℕ) × (k < length (range_with_len 0 n)) × HoldsAt P (range_with_len 0 n) k)
    (AllWithin (λ k. ¬ P k) (range_with_len 0 n) 0 (length (range_with_len 0 n)))
    → IsTrue r ↔ ((k : ℕ) × (k < n) × P k)
any_below P n true (k, lt, at) = grind (arith, length-range_with_len 0 n, get_or-range_with_len 0 n k 0)
any_below P n false none = (λ e. absurd (cc), λ (k, lt, h). grind (arith, none k 0, length-range_with_len 0 n, get_or-range_with_len 0 n k 0))

-- some element of a list mapped is some element of the list
pub Any-map : {X : Type 0} (f : X → List ℕ) (P : List ℕ → Type 0) (xs : List X) → X → Any (λ x. P (f x)) xs ↔ Any P (map f xs)
Any-map f P xs d = (
  λ (k, x, l, e, p). (k, f x, omega (arith, length-map xs f), get_or-map f xs k x (f x) l ∙ ap f e, p),
  λ (k, y, l, e, p).
      let in_xs : k < length xs = omega (arith, length-map xs f) in
      (k, get_or xs k d, in_xs, get_or_default xs k _ d in_xs, subst P (sym e ∙ get_or-map f xs k d y in_xs) p),
)
