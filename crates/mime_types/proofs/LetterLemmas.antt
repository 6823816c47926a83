-- A small letter in either case, byte by byte.
use Rattle.std.proofs.Common.{◌≡◌, ◌∙◌, ◌↔◌, inl, inr, ◌==◌, ◌&&◌, ◌+◌, ◌-◌, ◌<◌, ◌≤◌, ℕ, zero, suc, Bool, IsTrue, List, true, false, ap, arith, bit_or, get_or, length, not, refl, subst, sym}
use Rattle.std.proofs.lemmas.Bool.{and_parts, cases_lt, false≢true, leb-true}
use Rattle.std.proofs.lemmas.Grind.{same_number_lists}
use Rattle.std.proofs.lemmas.List.{get_or-map, length-map}
use Rattle.std.specs.Char.{to_ascii_lowercase}
use Rattle.mime_types.specs.Bytes.{is_small}
use Rattle.mime_types.specs.Text.{lower}

abbrev same : Bool → Bool → Bool
same true b = b
same false b = not b

same_is : (a b : Bool) → same a b ≡ true → a ≡ b
same_is true b is = sym is
same_is false true is = absurd (false≢true is)
same_is false false is = refl

-- a test that all numbers below n pass
abbrev below : ℕ → (ℕ → Bool) → Bool
below zero test = true
below (suc n) test = test n && below n test

below_at : (n : ℕ) (test : ℕ → Bool) → below n test ≡ true → (x : ℕ) → x < n → test x ≡ true
below_at zero test all x within = absurd (omega (arith, within))
below_at (suc n) test all x within =
    let parts = and_parts (test n) (below n test) all in
    elim (cases_lt x n) as (λ _. test x ≡ true) [
      | inl less ↦ below_at n test parts.1 x less
      | inr more ↦ let at : n ≡ x = omega (arith, within, more) in subst (λ y. test y ≡ true) at parts.0
    ]

abbrev alike : ℕ → ℕ → Bool
alike x k = same (bit_or x 0x20 == 0x61 + k) (to_ascii_lowercase x == 0x61 + k)

charted : below 256 (λ x. below 26 (alike x)) ≡ true
charted = refl

pub letter_alike : (x letter : ℕ) → x < 256 → IsTrue (is_small letter) → (bit_or x 0x20 == letter) ≡ (to_ascii_lowercase x == letter)
letter_alike x letter byte small =
    let parts = and_parts _ _ small in
    let low : 0x61 ≤ letter = leb-true 0x61 letter parts.0 in
    let high : letter ≤ 0x7A = leb-true letter 0x7A parts.1 in
    let is : 0x61 + (letter - 0x61) ≡ letter = omega (arith, low) in
    let told = below_at 26 (alike x) (below_at 256 (λ y. below 26 (alike y)) charted x byte) (letter - 0x61) (omega (arith, low, high)) in
    subst (λ l. (bit_or x 0x20 == l) ≡ (to_ascii_lowercase x == l)) is (same_is _ _ told)

-- a text is a word in any case if each of its bytes is
module _ (t word : List ℕ) (long : length t ≡ length word) where
  pub lower_is : ((k : ℕ) → k < length word → to_ascii_lowercase (get_or t k 0) ≡ get_or word k 0) ↔ (lower t ≡ word)
  lower_is = (
    λ each. same_number_lists (lower t) word (length-map t to_ascii_lowercase ∙ long)
        (λ k within. let here : k < length t = omega (arith, within, length-map t to_ascii_lowercase) in
        get_or-map to_ascii_lowercase t k 0 0 here ∙ each k (omega (arith, here, long))),
    λ same k within. sym (get_or-map to_ascii_lowercase t k 0 0 (omega (arith, within, long))) ∙ ap (λ l. get_or l k 0) same,
  )
