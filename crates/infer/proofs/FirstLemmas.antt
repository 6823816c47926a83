-- The first element with a property is one, and stands no later if more elements have it.
use Rattle.infer.proofs.Common.{◌≡◌, ◌∙◌, ◌<◌, ℕ, List, [], ◌∷◌, length, get_or, Option, None, Some, ap, sym, refl, arith, HoldsAt, AllWithin, Contracts, IsAnswer, IsFirstOf, IsNotLater, ReadersAreAlike, Row, Signature, Triple}

-- an element that has the property is not among those that lack it
among : {A : Type 0} (P : A → Type 0) (xs : List A) (i n : ℕ) → i < length xs → i < n → HoldsAt P xs i → ¬ AllWithin (λ x. ¬ P x) xs 0 n
among P [] i n lt below here none = absurd (omega arith)
among P (x ∷ xs) i n lt below here none = none i x (omega arith) below (here x)

-- if a second property holds of each element that has the first
module _ {A : Type 0} (P Q : A → Type 0) (xs : List A) (grows : (i : ℕ) → i < length xs → HoldsAt P xs i → HoldsAt Q xs i) where
  pub IsNotLater-grows : (before after : Option ℕ) → IsFirstOf P xs before → IsFirstOf Q xs after → IsNotLater after before
  IsNotLater-grows None after none first = tt
  IsNotLater-grows (Some j) None first none =
      absurd (among Q xs j (length xs) first.within first.within (grows j first.within first.here) none)
  IsNotLater-grows (Some j) (Some i) first then =
      grind (arith, λ (lt : j < i). among Q xs j i first.within lt (grows j first.within first.here) then.before)

pub IsFirstOf-same : {A : Type 0} (P : A → Type 0) (xs : List A) (o p : Option ℕ) → IsFirstOf P xs o → IsFirstOf P xs p → o ≡ p
IsFirstOf-same P xs o p h k = grind (arith, IsNotLater-grows)

pub same_answer : {S : Type 0} (P : Row S → Type 0) (rows : List (Row S)) (t u : Option Triple) → IsAnswer P rows t → IsAnswer P rows u → t ≡ u
same_answer P rows None None none nor = refl
same_answer P rows None (Some u) none (j, then, shows) = absurd (let same = IsFirstOf-same P rows None (Some j) none then in cc)
same_answer P rows (Some t) None (i, first, shown) none = absurd (let same = IsFirstOf-same P rows (Some i) None first none in cc)
same_answer P [] (Some t) (Some u) (i, first, shown) (j, then, shows) = absurd (let lt = first.within in omega arith)
same_answer P (r ∷ rows) (Some t) (Some u) (i, first, shown) (j, then, shows) =
    let both = IsFirstOf-same P (r ∷ rows) (Some i) (Some j) first then in
    let same : i ≡ j = cc in
    ap Some (sym (shown r) ∙ ap (λ k. (get_or (r ∷ rows) k r).shows) same ∙ shows r)

pub readers_alike : {X : Type 0} {g : Contracts X} (all : List (Row (Signature X g))) → ReadersAreAlike all
readers_alike all n s t h4 h5 same h k = grind (arith, same_answer)

pub ruleset one_first = (IsFirstOf-same)
