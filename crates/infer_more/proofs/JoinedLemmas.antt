-- Elements of lists that are joined, and of parts of a list.
use Rattle.infer_more.proofs.Common.{◌≡◌, ◌+◌, ◌-◌, ◌<◌, ◌≤◌, ℕ, zero, suc, List, [], ◌∷◌, ◌++◌, Option, None, Some, length, option_map, drop, take, ap, sym, ◌∙◌, refl, arith, slice_get-map, relation_listed}
use Rattle.std.proofs.Common.{slice_get}
use Rattle.infer_formats.specs.declared.relation.Relation as code
use Rattle.infer_more.specs.Listed.{AreRelations, relations}
use Rattle.infer_more.specs.declared.row_data.relations.TheConstants.{RELATIONS_OF_A_LIST}

module _ {A : Type 0} where
  pub slice_get_front : (xs ys : List A) (i : ℕ) (x : A) → slice_get xs i ≡ Some x → slice_get (xs ++ ys) i ≡ Some x
  slice_get_front [] ys i x e = absurd (cc)
  slice_get_front (y ∷ xs) ys zero x e = e
  slice_get_front (y ∷ xs) ys (suc i) x e = slice_get_front xs ys i x e

  pub slice_get_rest : (xs ys : List A) (i : ℕ) → slice_get xs i ≡ None → slice_get (xs ++ ys) i ≡ slice_get ys (i - length xs)
  slice_get_rest [] ys i e = ap (slice_get ys) (omega arith)
  slice_get_rest (y ∷ xs) ys zero e = absurd (cc)
  slice_get_rest (y ∷ xs) ys (suc i) e = slice_get_rest xs ys i e ∙ ap (slice_get ys) (omega arith)

  pub slice_get_drop : (xs : List A) (k j : ℕ) → slice_get (drop k xs) j ≡ slice_get xs (k + j)
  slice_get_drop xs zero j = let same : j ≡ zero + j = omega arith in ap (slice_get xs) same
  slice_get_drop [] (suc k) j = refl
  slice_get_drop (x ∷ xs) (suc k) j =
      let same : suc (k + j) ≡ suc k + j = omega arith in
      slice_get_drop xs k j ∙ ap (slice_get (x ∷ xs)) same

  slice_get_first : (xs : List A) (n j : ℕ) → j < n → slice_get (take n xs) j ≡ slice_get xs j
  slice_get_first [] zero j lt = refl
  slice_get_first [] (suc n) j lt = refl
  slice_get_first (x ∷ xs) zero j lt = absurd (omega (arith, lt))
  slice_get_first (x ∷ xs) (suc n) zero lt = refl
  slice_get_first (x ∷ xs) (suc n) (suc j) lt = slice_get_first xs n j (omega (arith, lt))

  -- an element of a part, by its place in the whole
  pub slice_get_part : (xs : List A) (k n j : ℕ) → j < n → slice_get (take n (drop k xs)) j ≡ slice_get xs (k + j)
  slice_get_part xs k n j lt = slice_get_first (drop k xs) n j lt ∙ slice_get_drop xs k j

-- what stands at a place of a list of relations, or that nothing does, is so of all of them
pub found_in : (first number : ℕ) (list : List code.Relation) (o : Option code.Relation) → first ≤ number → number < first + RELATIONS_OF_A_LIST
    → AreRelations first list → slice_get list (number - first) ≡ o → option_map relation_listed o ≡ slice_get relations number
found_in first number list o low high are e =
    let listed = slice_get-map relation_listed list (number - first) ∙ ap (option_map relation_listed) e in
    let part = slice_get_part relations first RELATIONS_OF_A_LIST (number - first) (omega (arith, low, high)) in
    let place : first + (number - first) ≡ number = omega (arith, low) in
    sym listed ∙ (ap (λ xs. slice_get xs (number - first)) are ∙ (part ∙ ap (slice_get relations) place))
