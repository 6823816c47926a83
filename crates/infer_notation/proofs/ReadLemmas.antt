-- What is read of a text from its first byte on.
use Rattle.infer_notation.proofs.Common.{[], ◌≡◌, ◌∷◌, ℕ, List, drop, inl, inr, refl, suc, true, zero, ◌∙◌, sym, cases_Bool, after_blanks, is_blank, ap}

-- bytes of a token that was read count no more
pub past_read : {A : Type 0} (f : ℕ → List ℕ → A) → ((n : ℕ) → f n [] ≡ f 0 []) → ((n x : ℕ) (xs : List ℕ) → f (suc n) (x ∷ xs) ≡ f n xs)
    → (n : ℕ) (xs : List ℕ) → f n xs ≡ f 0 (drop n xs)
past_read f none more zero [] = refl
past_read f none more zero (x ∷ xs) = refl
past_read f none more (suc n) [] = none (suc n)
past_read f none more (suc n) (x ∷ xs) = more n x xs ∙ past_read f none more n xs

-- nor do blanks
pub past_blanks : {A : Type 0} (f : List ℕ → A) → ((x : ℕ) (xs : List ℕ) → is_blank x ≡ true → f (x ∷ xs) ≡ f xs) → (xs : List ℕ) → f (after_blanks xs) ≡ f xs
past_blanks f blank [] = refl
past_blanks f blank (x ∷ xs) = elim (cases_Bool (is_blank x)) [
  | inl is ↦ rw is (past_blanks f blank xs ∙ sym (blank x xs is))
  | inr other ↦ (let whole : after_blanks (x ∷ xs) ≡ x ∷ xs = rw other refl in ap f whole)
]
