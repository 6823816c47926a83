-- What the bytes that were read tell of the front of all that there was to read.
use Rattle.infer_sniff.proofs.Common.{◌≡◌, ℕ, ◌-◌, ◌<◌, ◌≤◌, ◌⊎◌, List, [], ◌++◌, Option, None, Some, IfSome, length, take, sym, ap, subst, ◌∙◌, arith, inl, inr, take-append-add, cases_lt, append-nil, take_all, Consumes, IsAtEnd, IsSettled, IsTypeOf, IsVerdict, StaysFinal, found_of, Verdict, SoFar, Final}

module _ (n : ℕ) (b : List ℕ) (few : length b ≤ n) where
  front_after : (rest : List ℕ) → take n (b ++ rest) ≡ b ++ take (n - length b) rest
  front_after rest = grind (arith, take-append-add b rest (n - length b))

  is_type : (v : Verdict) (rest : List ℕ) → IsVerdict b v → StaysFinal b v → (length b < n → (rest ≡ []) ⊎ IsSettled b)
      → IsTypeOf (take n (b ++ rest)) (found_of v)
  is_type (Final found) rest is stays end = subst (λ u. IsTypeOf u found) (sym (front_after rest)) (stays (take (n - length b) rest)).0
  is_type (SoFar found) rest is stays end =
      let none : take (n - length b) rest ≡ [] = elim (cases_lt (length b) n) [
        | inl l ↦ elim (end l) [ inl e ↦ ap (take (n - length b)) e ∙ take_all (n - length b) [] (omega arith) | inr settled ↦ absurd (is.0 settled) ]
        | inr full ↦ ap (λ k. take k rest) (let e : n - length b ≡ 0 = omega arith in e)
      ] in
      subst (λ u. IsTypeOf u found) (sym (front_after rest ∙ ap (λ u. b ++ u) none ∙ append-nil b)) is.1

  -- if the reader is at its end, or there are n bytes, or the verdict is final
  pub of_front : (v : Verdict) (given left : Option (List ℕ)) → IsVerdict b v → StaysFinal b v → Consumes given left b
      → (length b < n → IsAtEnd left ⊎ IsSettled b) → IfSome given (λ s. IsTypeOf (take n s) (found_of v))
  of_front v None left is stays h end = tt
  of_front v (Some s) None is stays h end = absurd h
  of_front v (Some s) (Some rest) is stays h end = subst (λ u. IsTypeOf (take n u) (found_of v)) (sym h) (is_type v rest is stays end)
