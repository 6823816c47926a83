-- Answers of a list of rows.
use Rattle.infer.proofs.Common.{Allows, Bool, Contract, FixesAnswers, OnFalse, arith, get_or, true, ap, subst, MatchOption, option_map, ◌≡◌, ◌<◌, ℕ, List, ◌++◌, map, length, Option, None, Some, sym, ◌∙◌, AllWithin, HoldsAt, NoneHas, IsAnswer, Row, Triple, rules}
use Rattle.std.proofs.lemmas.Grind.{get_or_default_zero}
use denote.Ref.{Bor}
use Rattle.infer.proofs.ListLemmas.{HoldsAt-map, HoldsAt-from_map, HoldsAt-right, IsFirst-map, IsFirst-right, NoneHas-map, NoneHas-both}

-- what `find` found of xs is the answer of the rows that it shows
pub answer_of_find : {A S : Type 0} (f : A → Row S) (P : Row S → Type 0) (xs : List A) (rows : List (Row S)) → map f xs ≡ rows → (found : Option (Bor A))
    → MatchOption found (AllWithin (λ x. ¬ P (f x)) xs 0 (length xs))
    (λ x. P (f x.now) × (i : ℕ) × (i < length xs) × HoldsAt (λ y. y ≡ x.now) xs i × AllWithin (λ y. ¬ P (f y)) xs 0 i)
    → (o : Option Triple) → o ≡ option_map (λ x. (f x.now).shows) found → IsAnswer P rows o
answer_of_find f P xs rows e None none o same = rw (← e, same) ((NoneHas-map f P xs).0 none)
answer_of_find f P xs rows e (Some x) (holds, i, lt, at, before) o same =
    let here : HoldsAt (λ y. P (f y)) xs i = λ d. subst (λ y. P (f y)) (sym (at d)) holds in
    let shown : HoldsAt (λ y. (f y).shows ≡ (f x.now).shows) xs i = λ d. ap (λ y. (f y).shows) (at d) in
    let first = (IsFirst-map f P xs i).0 (record { within = lt; here = here; before = before }) in
    rw (← e, same) (i, first, HoldsAt-map f (λ r. r.shows ≡ (f x.now).shows) xs i lt shown)

-- rows that show the same and accept the same have the same answer
module _ {S T : Type 0} (f : Row S → Row T) (P : Row T → Type 0) (same : (r : Row S) → (f r).shows ≡ r.shows) (rows : List (Row S)) where
  pub answer_map : (o : Option Triple) → IsAnswer (λ r. P (f r)) rows o → IsAnswer P (map f rows) o
  answer_map None h = (NoneHas-map f P rows).0 h
  answer_map (Some t) h =
      (h.0, (IsFirst-map f P rows h.0).0 h.1, HoldsAt-map f (λ r. r.shows ≡ t) rows h.0 h.1.within (λ d. same _ ∙ h.2 d))

  pub answer_from_map : (o : Option Triple) → IsAnswer P (map f rows) o → IsAnswer (λ r. P (f r)) rows o
  answer_from_map None h = (NoneHas-map f P rows).1 h
  answer_from_map (Some t) h =
      let first = (IsFirst-map f P rows h.0).1 h.1 in
      (h.0, first, λ d. sym (same _) ∙ HoldsAt-from_map f (λ r. r.shows ≡ t) rows h.0 first.within h.2 d)

module _ {S : Type 0} (P : Row S → Type 0) (xs ys : List (Row S)) where
  -- if the front has none, it is that of the rest
  pub answer_right : (o : Option Triple) → NoneHas P xs → IsAnswer P ys o → IsAnswer P (xs ++ ys) o
  answer_right None none h = NoneHas-both P xs ys none h
  answer_right (Some t) none h = search (rules, IsFirst-right P xs ys h.0 none h.1, HoldsAt-right)

-- a call that answered false is one whose contract does not allow true
pub settled_no : (post : Contract) (buf : Bor (List ℕ)) (answer : Bool) → ((i : ℕ) → get_or buf.now i 0 < 256) → FixesAnswers post
    → post buf answer → OnFalse answer (¬ Allows post buf.now true)
settled_no post buf answer bytes settled says = grind (arith, get_or_default_zero)
