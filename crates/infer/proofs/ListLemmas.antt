-- The first and some element of a list with a property: of a list that was read, of the images of a list, and of
-- two lists joined.
use Rattle.infer.proofs.Common.{◌≡◌, ◌↔◌, Bool, true, false, IsTrue, MatchBool, ◌+◌, ◌-◌, ◌<◌, ◌≤◌, ℕ, List, [], ◌∷◌, ◌++◌, ◌⊎◌, inl, inr, map, length, get_or, refl, subst, arith, length-append, HoldsAt, AllWithin, cases_lt, false≢true, get_or_default, get_or_append_left, get_or-append-add, length-map, none_from_all_within, IsFirst, NoneHas, SomeHas}
use Rattle.std.proofs.lemmas.List.{get_or-append_right}
use Rattle.std.proofs.lemmas.List.{get_or-map}

-- what holds of an element that was read holds at its index
pub HoldsAt-read : {A : Type 0} (P : A → Type 0) (xs : List A) (i : ℕ) (c : A) → i < length xs → P (get_or xs i c) → HoldsAt P xs i
HoldsAt-read P xs i c lt h = λ d. subst P (get_or_default xs i c d lt) h

module _ {A B : Type 0} (f : A → B) (P : B → Type 0) where
  pub HoldsAt-map : (xs : List A) (i : ℕ) → i < length xs → HoldsAt (λ x. P (f x)) xs i → HoldsAt P (map f xs) i
  HoldsAt-map [] i lt h = absurd (omega arith)
  HoldsAt-map (x ∷ xs) i lt h = λ e. rw (get_or-map f (x ∷ xs) i x e lt) (h x)

  pub HoldsAt-from_map : (xs : List A) (i : ℕ) → i < length xs → HoldsAt P (map f xs) i → HoldsAt (λ x. P (f x)) xs i
  HoldsAt-from_map xs i lt h = λ d. rw (← get_or-map f xs i d (f d) lt) (h (f d))

  AllWithin-map : (xs : List A) (n : ℕ) → n ≤ length xs → AllWithin (λ x. P (f x)) xs 0 n ↔ AllWithin P (map f xs) 0 n
  AllWithin-map xs n le = grind (arith, HoldsAt-map, HoldsAt-from_map)

module _ {A B : Type 0} (f : A → B) (P : B → Type 0) (xs : List A) where
  pub SomeHas-map : SomeHas (λ x. P (f x)) xs → SomeHas P (map f xs)
  SomeHas-map h = (h.0, rw length-map h.1, HoldsAt-map f P xs h.0 h.1 h.2)

  pub SomeHas-from_map : SomeHas P (map f xs) → SomeHas (λ x. P (f x)) xs
  SomeHas-from_map h = let lt : h.0 < length xs = rw length-map at h.1 in (h.0, lt, HoldsAt-from_map f P xs h.0 lt h.2)

  pub NoneHas-map : NoneHas (λ x. P (f x)) xs ↔ NoneHas P (map f xs)
  NoneHas-map = rw length-map (AllWithin-map f (λ y. ¬ P y) xs (length xs) (omega arith))

  pub IsFirst-map : (i : ℕ) → IsFirst (λ x. P (f x)) xs i ↔ IsFirst P (map f xs) i
  IsFirst-map i =
      let before : i < length xs → AllWithin (λ x. ¬ P (f x)) xs 0 i ↔ AllWithin (λ y. ¬ P y) (map f xs) 0 i
      = λ lt. AllWithin-map f (λ y. ¬ P y) xs i (omega arith) in (
        λ h. record { within = rw length-map h.within; here = HoldsAt-map f P xs i h.within h.here; before = (before h.within).0 h.before },
        λ h.
            let lt : i < length xs = rw length-map at h.within in
            record { within = lt; here = HoldsAt-from_map f P xs i lt h.here; before = (before lt).1 h.before },
      )

-- what `any` answered of xs, for their images ys
pub some_of_any : {A B : Type 0} (f : A → B) (P : B → Type 0) (xs : List A) (ys : List B) → map f xs ≡ ys → (r : Bool)
    → MatchBool r (SomeHas (λ x. P (f x)) xs) (NoneHas (λ x. P (f x)) xs) → IsTrue r ↔ SomeHas P ys
some_of_any f P xs ys e true h = (λ _. subst (SomeHas P) e (SomeHas-map f P xs h), λ _. refl)
some_of_any f P xs ys e false h = (λ no. absurd (cc), λ some. absurd (none_from_all_within P ys (subst (NoneHas P) e ((NoneHas-map f P xs).0 h)) some))

AllWithin-both : {A : Type 0} (P : A → Type 0) (xs ys : List A) (n : ℕ) → AllWithin P xs 0 (length xs) → AllWithin P ys 0 n
    → AllWithin P (xs ++ ys) 0 (length xs + n)
AllWithin-both P xs ys n p q = grind (arith, get_or_append_left, get_or-append_right)

module _ {A : Type 0} (P : A → Type 0) (xs ys : List A) where
  pub HoldsAt-right : (i : ℕ) → HoldsAt P ys i → HoldsAt P (xs ++ ys) (length xs + i)
  HoldsAt-right i h = λ d. rw (get_or-append-add xs ys i d) (h d)

  -- one in the whole is one in the front or in the rest
  SomeHas-either : SomeHas P (xs ++ ys) → SomeHas P xs ⊎ SomeHas P ys
  SomeHas-either h = elim (cases_lt h.0 (length xs)) [
    | inl lt ↦ inl (h.0, lt, λ d. rw (← get_or_append_left xs ys d h.0 lt) (h.2 d))
    | inr le ↦ inr (h.0 - length xs, omega (arith, h.1, length-append xs ys), λ d. rw (← get_or-append_right xs ys (length xs) h.0 d refl le) (h.2 d))
  ]

  -- if the front has none, it is that of the rest
  pub IsFirst-right : (i : ℕ) → NoneHas P xs → IsFirst P ys i → IsFirst P (xs ++ ys) (length xs + i)
  IsFirst-right i none h = record {
    within = omega (arith, h.within, length-append xs ys);
    here = HoldsAt-right i h.here;
    before = AllWithin-both (λ x. ¬ P x) xs ys i none h.before;
  }

  pub NoneHas-both : NoneHas P xs → NoneHas P ys → NoneHas P (xs ++ ys)
  NoneHas-both none h = rw (length-append xs ys) (AllWithin-both (λ x. ¬ P x) xs ys (length ys) none h)

-- whether some does after a list in which none does, where the property names a text by what it equals
pub some_of_rest : {A B : Type 0} (f : A → B) (P : List ℕ → B → Type 0) (xs : List B) (ys : List A) (r : Bool) (text named : List ℕ) → text ≡ named
    → IsTrue false ↔ SomeHas (P text) xs → IsTrue r ↔ SomeHas (λ y. P text (f y)) ys → IsTrue r ↔ SomeHas (P named) (xs ++ map f ys)
some_of_rest f P xs ys r text named same front rest = rw (← same) (
  λ e.
      let (i, lt, at) = SomeHas-map f (P text) ys (rest.0 e) in
      (length xs + i, omega (arith, lt, length-append xs (map f ys)), HoldsAt-right (P text) xs (map f ys) i at),
  λ h. elim (SomeHas-either (P text) xs (map f ys) h) [
    | inl k ↦ absurd (false≢true (front.1 k))
    | inr k ↦ rest.1 (SomeHas-from_map f (P text) ys k)
  ],
)
