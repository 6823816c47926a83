-- A text stands at a place exactly if each of its bytes does.
use Rattle.infer_deep.proofs.Common.{◌≡◌, Bool, ℕ, ◌+◌, ◌-◌, ◌<◌, ◌≤◌, ◌↔◌, List, ◌++◌, length, get_or, take, drop, refl, ap, ◌∙◌, arith, nat_eq, IsTrue, length-append, length-drop, get_or-drop, take-take, drop-take, get_or_append_left, Decides-eqb, starts_is, front_from_reads, OccursAt, starts_with}
use Rattle.std.specs.Cmp.Lexicographic.{pointwise}
use Rattle.infer_sig.specs.Signature.{stands}
use Rattle.infer_sig.specs.Places.{StandsByPlace}

-- by place, at the front
front_read : (t xs : List ℕ) → IsTrue (starts_with nat_eq xs t)
    → (k : ℕ) → k < length t → (k < length xs) × (get_or xs k 0 ≡ get_or t k 0)
front_read t xs h k l =
    let whole = (starts_is {E = nat_eq} Decides-eqb xs t _ refl).0 h in grind (arith, whole, length-append, get_or_append_left t (drop (length t) xs) 0 k)

front_made : (t xs : List ℕ) → ((k : ℕ) → k < length t → (k < length xs) × (get_or xs k 0 ≡ get_or t k 0))
    → IsTrue (starts_with nat_eq xs t)
front_made t xs h = (starts_is {E = nat_eq} Decides-eqb xs t _ refl).1 _ (front_from_reads 0 xs t (grind (arith, h (length t - 1))) (λ k l. (h k l).1))

pub stands_by_place : (place : ℕ) (t buf : List ℕ) → IsTrue (stands place t buf) ↔ StandsByPlace place t buf
unfolding stands
stands_by_place place t buf = grind (arith, front_read t (drop place buf), length-drop place buf, get_or-drop place buf, front_made t (drop place buf))

-- it stands there however the buffer goes on
pub stands_lasts : (place : ℕ) (t buf more : List ℕ)
    → IsTrue (stands place t buf) → IsTrue (stands place t (buf ++ more))
stands_lasts place t buf more h = grind (arith, stands_by_place, length-append, get_or_append_left)

-- any front of the buffer that reaches the text's end tells
pub stands-take : (place n : ℕ) (t buf : List ℕ) → place + length t ≤ n
    → stands place t (take n buf) ≡ stands place t buf
unfolding stands
stands-take place n t buf within =
    let cut : drop place (take n buf) ≡ take (n - place) (drop place buf) =
    ap (λ m. drop place (take m buf)) (omega arith) ∙ drop-take place (n - place) buf in
    ap (pointwise nat_eq t) (ap (take (length t)) cut ∙ take-take (length t) (n - place) (drop place buf) (omega arith))

-- a test of whether it stands there is the signature's
pub stands_from_occurs : (place : ℕ) (t buf : List ℕ) (r : Bool) → place + length t ≤ length buf
    → IsTrue r ↔ OccursAt buf t place → r ≡ stands place t buf
stands_from_occurs place t buf r fits h = grind (arith, stands_by_place)
