-- Two tests over one list.
use Rattle.infer_deep.proofs.Common.{◌≡◌, Bool, List, [], ◌∷◌, refl, arith, IsTrue, nat_tests, list_any, list_all}

-- if the first test passes, so does the second
pub list_any_passes : {X : Type 0} (p q : X → Bool) → ((x : X) → IsTrue (p x) → IsTrue (q x))
    → (xs : List X) → IsTrue (list_any p xs) → IsTrue (list_any q xs)
list_any_passes p q each [] some = some
list_any_passes p q each (x ∷ xs) some = grind (arith, nat_tests, each x, list_any_passes p q each xs)

-- where two tests pass, so does a third, and where one does, another
pub list_all_joined : {X : Type 0} (p q r : X → Bool) → ((x : X) → IsTrue (p x) → IsTrue (q x) → IsTrue (r x))
    → (xs : List X) → IsTrue (list_all p xs) → IsTrue (list_all q xs) → IsTrue (list_all r xs)
list_all_joined p q r each [] all others = refl
list_all_joined p q r each (x ∷ xs) all others = grind (arith, nat_tests, each x, list_all_joined p q r each xs)

pub list_all_passes : {X : Type 0} (p q : X → Bool) → ((x : X) → IsTrue (p x) → IsTrue (q x))
    → (xs : List X) → IsTrue (list_all p xs) → IsTrue (list_all q xs)
list_all_passes p q each xs all = list_all_joined p p q (λ x passes again. each x passes) xs all all

-- of elements that all pass the first test, one that passes the second passes the third
pub list_any_among : {X : Type 0} (p q r : X → Bool) → ((x : X) → IsTrue (p x) → IsTrue (q x) → IsTrue (r x))
    → (xs : List X) → IsTrue (list_all p xs) → IsTrue (list_any q xs) → IsTrue (list_any r xs)
list_any_among p q r each [] all some = some
list_any_among p q r each (x ∷ xs) all some = grind (arith, nat_tests, each x, list_any_among p q r each xs)

-- the two answer alike on the elements that pass a third, which are all
pub list_any_same : {X : Type 0} (p q r : X → Bool) → ((x : X) → IsTrue (r x) → p x ≡ q x)
    → (xs : List X) → IsTrue (list_all r xs) → list_any p xs ≡ list_any q xs
list_any_same p q r each [] all = refl
list_any_same p q r each (x ∷ xs) all = grind (arith, nat_tests, each x, list_any_same p q r each xs)

pub list_all_same : {X : Type 0} (p q r : X → Bool) → ((x : X) → IsTrue (r x) → p x ≡ q x)
    → (xs : List X) → IsTrue (list_all r xs) → list_all p xs ≡ list_all q xs
list_all_same p q r each [] all = refl
list_all_same p q r each (x ∷ xs) all = grind (arith, nat_tests, each x, list_all_same p q r each xs)
