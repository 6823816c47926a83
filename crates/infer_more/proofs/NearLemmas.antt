-- Stretches of a long list that are found in few steps: by what is left of the list after each 64 elements, which is told once
-- for all of them. The prover drops what stands before a stretch element by element, and anew for each.
use Rattle.std.proofs.Common.{◌≡◌, ◌+◌, ◌*◌, ◌/◌, ◌%◌, ◌∙◌, ℕ, zero, suc, List, [], ◌∷◌, Option, ap, arith, drop, refl, slice_get, take}
use Rattle.std.proofs.Math.Path.{fun_ext}
use Rattle.std.proofs.lemmas.List.{drop-drop}
use Rattle.infer_evidence.specs.Spans.{stretch}

-- what stands from a place on, so many elements
abbrev pub Stretches : Type 0 → Type 0
Stretches A = ℕ → ℕ → List A

-- a list, and what is left of it after each 64 elements, so many times
abbrev rests : {A : Type 0} → ℕ → List A → List (List A)
rests zero list = []
rests (suc n) list = list ∷ rests n (drop 64 list)

-- what is left after n times 64 elements, also where these rests end before
abbrev rest_at : {A : Type 0} → List A → List (List A) → ℕ → List A
rest_at list [] n = drop (64 * n) list
rest_at list (rest ∷ rests) zero = rest
rest_at list (rest ∷ rests) (suc n) = rest_at (drop 64 rest) rests n

abbrev near_by : {A : Type 0} → List A → List (List A) → Stretches A
near_by list rests start count = stretch (rest_at list rests (start / 64)) (start % 64) count

-- the stretches of a list
abbrev pub near : {A : Type 0} → List A → Stretches A
near list = near_by list (rests 1024 list)

-- the element at a place, if there is one: the first of a stretch
abbrev pub element_by : {A : Type 0} → Stretches A → ℕ → Option A
element_by stretches i = slice_get (stretches i 1) 0

module _ {A : Type 0} where
  rest_is : (list : List A) (m n : ℕ) → rest_at list (rests m list) n ≡ drop (64 * n) list
  rest_is list zero n = refl
  rest_is list (suc m) zero = refl
  rest_is list (suc m) (suc n) = let more : 64 + 64 * n ≡ 64 * suc n = omega arith in
      rest_is (drop 64 list) m n ∙ (drop-drop (64 * n) 64 list ∙ ap (λ k. drop k list) more)

  near_at : (list : List A) (start count : ℕ) → near list start count ≡ stretch list start count
  near_at list start count = let all : 64 * (start / 64) + start % 64 ≡ start = omega arith in
      ap (λ l. stretch l (start % 64) count) (rest_is list 1024 (start / 64))
      ∙ (ap (take count) (drop-drop (start % 64) (64 * (start / 64)) list) ∙ ap (λ k. stretch list k count) all)

  pub near_is : (list : List A) → near list ≡ stretch list
  near_is list = fun_ext (λ start. fun_ext (λ count. near_at list start count))

  first_left : (list : List A) (i : ℕ) → slice_get (stretch list i 1) 0 ≡ slice_get list i
  first_left [] zero = refl
  first_left (x ∷ list) zero = refl
  first_left [] (suc i) = refl
  first_left (x ∷ list) (suc i) = first_left list i

  pub element_is : (list : List A) → element_by (near list) ≡ slice_get list
  element_is list = ap element_by (near_is list) ∙ fun_ext (first_left list)
