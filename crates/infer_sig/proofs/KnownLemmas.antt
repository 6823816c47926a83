-- What a computation says of a claim: a proof of it, a proof that it fails, or nothing.
use Rattle.infer_deep.proofs.Common.{◌*◌, ◌<◌, ◌≡◌, ◌≤◌, ◌⊎◌, inl, inr, ℕ, Bool, true, false, List, eqb, leb, IsTrue, refl, length, take, arith, Decides, AllWithin, list_all, bytes_eq, leb-true, le-leb, Decides-eqb, not_from_Decides, get_or-take, length-take-le, AllPass-from_list_all, bytes_eq-Decides}
use Rattle.infer_sig.proofs.TestLemmas.{NoneRefused, passed}

pub data Known (P : Type 0) : Type 0 where
  proved : P → Known P
  refuted : ¬ P → Known P
  unknown : Known P

module _ {P : Type 0} where
  abbrev pub is_proved : Known P → Bool
  is_proved (proved h) = true
  is_proved k = false

  pub proof_of : (k : Known P) → IsTrue (is_proved k) → P
  proof_of k e = grind (arith)

  -- by a test that is enough for the claim, or against it, or that decides it
  abbrev pub proved_if : (r : Bool) → (IsTrue r → P) → Known P
  proved_if true h = proved (h refl)
  proved_if false h = unknown

  abbrev pub refuted_if : (r : Bool) → (IsTrue r → ¬ P) → Known P
  refuted_if true h = refuted (h refl)
  refuted_if false h = unknown

  abbrev pub decided : (r : Bool) → Decides r P → Known P
  decided true d = proved (d.0 refl)
  decided false d = refuted (not_from_Decides false d refl)

  -- what the first says, and what the second does if the first says nothing
  abbrev pub ◌>>◌ : Known P → Known P → Known P
  ◌>>◌ unknown k = k
  ◌>>◌ h k = h

abbrev pub is : (r : Bool) → Known (IsTrue r)
is r = decided r ((λ h. h), (λ h. h))

abbrev pub same : (m n : ℕ) → Known (m ≡ n)
same m n = decided (eqb m n) (Decides-eqb m n)

abbrev pub at_most : (m n : ℕ) → Known (m ≤ n)
at_most m n = decided (leb m n) (leb-true m n, le-leb m n)

abbrev pub same_text : (v w : List ℕ) → Known (v ≡ w)
same_text v w = decided (bytes_eq v w) (bytes_eq-Decides v w)

abbrev pub negated : {P : Type 0} → Known P → Known (¬ P)
negated (proved p) = refuted (λ h. h p)
negated (refuted h) = proved h
negated unknown = unknown

module _ {P Q : Type 0} where
  abbrev pub both : Known P → Known Q → Known (P × Q)
  both (proved p) (proved q) = proved (p, q)
  both (refuted h) k = refuted (λ s. h s.0)
  both k (refuted h) = refuted (λ s. h s.1)
  both h k = unknown

  abbrev pub either : Known P → Known Q → Known (P ⊎ Q)
  either (proved p) k = proved (inl p)
  either k (proved q) = proved (inr q)
  either (refuted h) (refuted g) = refuted (λ s. elim s [ inl p ↦ h p | inr q ↦ g q ])
  either h k = unknown

-- a claim of each number below n, of which so many sixteens are looked at
pub each_known : {P : ℕ → Type 0} (k : (i : ℕ) → Known (P i)) (n m : ℕ) → NoneRefused (λ i. is_proved (k i)) n 0 m → n ≤ 16 * m → (i : ℕ) → i < n → P i
each_known k n m all enough i lt = proof_of (k i) (passed (λ j. is_proved (k j)) n m all enough i lt)

-- a claim of each of the first n elements
module _ {X : Type 0} {P : X → Type 0} (k : (x : X) → Known (P x)) (xs : List X) (n : ℕ) (within : n ≤ length xs) where
  pub each_proved : IsTrue (list_all (λ x. is_proved (k x)) (take n xs)) → AllWithin P xs 0 n
  each_proved e i d low lt = grind (arith, length-take-le, get_or-take, proof_of, AllPass-from_list_all)

  abbrev pub each_before : Known (AllWithin P xs 0 n)
  each_before = proved_if (list_all (λ x. is_proved (k x)) (take n xs)) each_proved

-- a step on the way to Q: a claim P that Q needs, or one that helps to prove it
pub data Step (P Q : Type 0) : Type 0 where
  needs : Known P → (Q → P) → Step P Q
  takes : Known P → Step P Q

abbrev pub ◌>>=◌ : {P Q : Type 0} → Step P Q → (P → Known Q) → Known Q
◌>>=◌ (needs (proved p) from) next = next p
◌>>=◌ (needs (refuted h) from) next = refuted (λ q. h (from q))
◌>>=◌ (takes (proved p)) next = next p
◌>>=◌ step next = unknown
