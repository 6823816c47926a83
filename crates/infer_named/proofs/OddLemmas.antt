-- Marks of the direction of writing.
use Rattle.std.proofs.Common.{◌≡◌, ◌+◌, ◌-◌, ◌<◌, ◌≤◌, ◌∙◌, ℕ, true, false, IsTrue, List, [], ◌∷◌, ap, sym, subst, refl, arith, drop, take, get_or, length, inl, inr}
use Rattle.std.proofs.lemmas.Bool.{cases_Bool, cases_lt, eqb-true}
use Rattle.std.proofs.lemmas.List.{get_or-drop, length-drop, take_rest}
use Rattle.std.specs.Prelude.{nat_eq}
use Rattle.std.specs.Char.{encode_utf8}
use Rattle.memchr.specs.Find.{Nowhere, Passes, is_byte2}
use Rattle.infer_named.specs.Odd.{begins_with_mark}

-- a mark begins with one of two bytes
first_of_mark : (text : List ℕ) → IsTrue (begins_with_mark text) → is_byte2 0xD8 0xE2 (get_or text 0 0) ≡ true
unfolding begins_with_mark encode_utf8
first_of_mark [] h = absurd (cc)
first_of_mark (x ∷ rest) h = elim (cases_Bool (nat_eq 0xD8 x)) [
  | inl on ↦ subst (λ y. is_byte2 0xD8 0xE2 y ≡ true) (eqb-true 0xD8 x on) refl
  | inr off ↦ elim (cases_Bool (nat_eq 0xE2 x)) [
    | inl on ↦ subst (λ y. is_byte2 0xD8 0xE2 y ≡ true) (eqb-true 0xE2 x on) refl
    | inr none ↦ absurd (let no : false ≡ true = rw off at (rw none at h) in cc)
  ]
]

-- so it is at no place that a search for these two passes over
module _ (b : List ℕ) (from : ℕ) (none : (p : ℕ) → p < from → ¬ IsTrue (begins_with_mark (drop p b))) where
  none_to : (k : ℕ) → Nowhere (Passes (is_byte2 0xD8 0xE2) (take (length b - from) (drop from b))) 0 k
      → (p : ℕ) → p < from + k → ¬ IsTrue (begins_with_mark (drop p b))
  none_to k lacks p lt is = elim (cases_lt p from) [
    | inl before ↦ none p before is
    | inr late ↦ (
        let same : p + 0 ≡ from + (p - from) = omega arith in
        let there : get_or b (from + (p - from)) 0 ≡ get_or (take (length b - from) (drop from b)) (p - from) 0
        = sym (get_or-drop from b (p - from) 0) ∙ ap (λ l. get_or l (p - from) 0) (sym (take_rest b from)) in
        let read = get_or-drop p b 0 0 ∙ ap (λ i. get_or b i 0) same ∙ there in
        lacks (p - from) (omega arith) (omega arith) (subst (λ y. is_byte2 0xD8 0xE2 y ≡ true) read (first_of_mark (drop p b) is)))
  ]

  pub none_past : (k : ℕ) → Nowhere (Passes (is_byte2 0xD8 0xE2) (take (length b - from) (drop from b))) 0 k
      → false ≡ begins_with_mark (take (length b - (from + k)) (drop (from + k) b))
      → (p : ℕ) → p < from + (k + 1) → ¬ IsTrue (begins_with_mark (drop p b))
  none_past k lacks absent p lt is = elim (cases_lt p (from + k)) [
    | inl before ↦ none_to k lacks p before is
    | inr late ↦ (
        let here : p ≡ from + k = omega arith in
        let found : begins_with_mark (drop (from + k) b) ≡ true = subst (λ i. begins_with_mark (drop i b) ≡ true) here is in
        let no : false ≡ true = absent ∙ ap begins_with_mark (take_rest b (from + k)) ∙ found in absurd (cc))
  ]

  pub none_left : Nowhere (Passes (is_byte2 0xD8 0xE2) (take (length b - from) (drop from b))) 0 (length (take (length b - from) (drop from b)))
      → from ≤ length b → (p : ℕ) → p < length b → ¬ IsTrue (begins_with_mark (drop p b))
  none_left lacks le p lt is = let long = ap length (take_rest b from) in none_to _ lacks p (omega (arith, length-drop from b)) is
