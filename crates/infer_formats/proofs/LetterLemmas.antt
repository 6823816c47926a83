-- How many letters stand somewhere, and signs of names.
use Rattle.infer_formats.proofs.Common.{◌+◌, ◌-◌, ◌<◌, ◌≡◌, ◌≤◌, ◌&&◌, ◌||◌, ◌==◌, [], ◌∷◌, ℕ, Bool, IsTrue, List, arith, drop, false, get_or-drop, nat_le, refl, slice_index, subst, suc, true, zero, if◌then◌else◌}

abbrev pub is_letter : ℕ → Bool
is_letter x = (nat_le 0x41 x && nat_le x 0x5A) || (nat_le 0x61 x && nat_le x 0x7A)

-- or a digit, "-", "." or "_"
abbrev pub is_sign : ℕ → Bool
is_sign x = is_letter x || ((nat_le 0x30 x && nat_le x 0x39) || (nat_le 0x2D x && nat_le x 0x2E || x == 0x5F))

-- how many bytes that pass the test stand first
module _ (test : ℕ → Bool) where
  abbrev pub letters : List ℕ → ℕ
  letters [] = 0
  letters (x ∷ b) = if test x then suc (letters b) else 0

  letter_first : (r : Bool) (x : ℕ) (b : List ℕ) (n k : ℕ) → test x ≡ r → ((k : ℕ) → k < n → IsTrue (test (slice_index b k))) → k < (if r then suc n else 0)
      → IsTrue (test (slice_index (x ∷ b) k))
  letter_first true x b n zero e rest lt = e
  letter_first true x b n (suc k) e rest lt = rest k (omega arith)
  letter_first false x b n k e rest lt = absurd (omega arith)

  letters_read : (b : List ℕ) (k : ℕ) → k < letters b → IsTrue (test (slice_index b k))
  letters_read [] k lt = absurd (omega arith)
  letters_read (x ∷ b) k lt = letter_first (test x) x b (letters b) k refl (letters_read b) lt

  -- such bytes stand from p up to q
  abbrev pub Letters : List ℕ → ℕ → ℕ → Type 0
  Letters b p q = (k : ℕ) → p ≤ k → k < q → IsTrue (test (slice_index b k))

  pub letters_from : (b : List ℕ) (p : ℕ) → Letters b p (p + letters (drop p b))
  letters_from b p k low high =
      let at : p + (k - p) ≡ k = omega arith in
      subst (λ i. IsTrue (test (slice_index b i))) at
      (subst (λ x. IsTrue (test x)) (get_or-drop p b (k - p) 0) (letters_read (drop p b) (k - p) (omega arith)))
