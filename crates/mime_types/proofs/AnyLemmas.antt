-- Some element of a list that is mapped.
use Rattle.std.proofs.Common.{◌↔◌, ◌∙◌, ◌<◌, ℕ, List, Any, ap, arith, get_or, length, map, subst, sym}
use Rattle.std.proofs.lemmas.List.{get_or-map, length-map, get_or_default}

-- it is some element of the list
pub Any-map : {X : Type 0} (f : X → List ℕ) (P : List ℕ → Type 0) (xs : List X) → X → Any (λ x. P (f x)) xs ↔ Any P (map f xs)
Any-map f P xs d = (
  λ (k, x, l, e, p). (k, f x, omega (arith, length-map xs f), get_or-map f xs k x (f x) l ∙ ap f e, p),
  λ (k, y, l, e, p).
      let in_xs : k < length xs = omega (arith, length-map xs f) in
      (k, get_or xs k d, in_xs, get_or_default xs k _ d in_xs, subst P (sym e ∙ get_or-map f xs k d y in_xs) p),
)
