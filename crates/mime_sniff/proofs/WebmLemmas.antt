-- Where the name of WebM is looked for.
use Rattle.std.proofs.Common.{◌≡◌, ◌↔◌, ◌∙◌, ℕ, zero, suc, ◌+◌, ◌-◌, ◌<◌, ◌≤◌, Bool, true, false, List, codes, get_or, if◌then◌else◌, inl, inr, length, arith, sym, subst}
use Rattle.std.proofs.lemmas.Bool.{cases_lt}
use Rattle.std.specs.Fn.{iterate}
use Rattle.memchr.specs.Find.{OccursAt}
use Rattle.infer_deep.proofs.PlaceLemmas.{OccursAt-first}
use Rattle.mime_sniff.specs.Webm.{Holds, HoldsFrom, NamesWebm, begins_name, content, next_place}

module _ (b : List ℕ) (place at : ℕ) (zeros_before : (k : ℕ) → place ≤ k → k < at → get_or b k 0 ≡ 0) where
  first_is : (p : ℕ) → OccursAt b (codes "webm") p → get_or b p 0 ≡ 0x77
  first_is p o = OccursAt-first b (codes "webm") p (omega arith) o

  -- after the zeros up to a place the name stands there or nowhere
  pub named_at : place ≤ at → (get_or b at 0 ≡ 0 → ⊥) → (OccursAt b (codes "webm") at × (at + 4 < length b)) ↔ NamesWebm b place
  named_at low other = (
    λ (o, more). (
      at - place,
      λ k l. zeros_before (place + k) (omega arith) (omega arith),
      let e : at ≡ place + (at - place) = omega arith in subst (λ i. OccursAt b (codes "webm") i) e o,
      omega arith,
    ),
    λ (zeros, all, o, more).
        let name = first_is (place + zeros) o in
        let same : place + zeros ≡ at = elim (cases_lt at (place + zeros)) [
          | inl l ↦
              let e : place + (at - place) ≡ at = omega arith in
              absurd (other (subst (λ i. get_or b i 0 ≡ 0) e (all (at - place) (omega arith))))
          | inr l ↦ elim (cases_lt (place + zeros) at) [
            | inl m ↦ let no : 0 ≡ 0x77 = sym (zeros_before (place + zeros) (omega arith) m) ∙ name in absurd (omega arith)
            | inr m ↦ omega arith
          ]
        ] in
        (subst (λ i. OccursAt b (codes "webm") i) same o, omega arith),
  )

  pub named_nowhere : length b ≤ at → ¬ NamesWebm b place
  named_nowhere end (zeros, all, o, more) =
      let no : 0 ≡ 0x77 = sym (zeros_before (place + zeros) (omega arith) (omega arith)) ∙ first_is (place + zeros) o in absurd (omega (arith, no))

module _ (b : List ℕ) where
  pub next_later : (i : ℕ) → i < next_place b i
  next_later i = step (begins_name b i)
    where
      step : (t : Bool) → i < (if t then content b i + 1 else i + 1)
      step true = omega arith
      step false = omega arith

  -- places that are looked at later are no nearer
  pub all_later : (n i : ℕ) → i ≤ iterate (next_place b) n i
  all_later zero i = omega arith
  all_later (suc n) i =
      let one = next_later i in
      let rest = all_later n (next_place b i) in
      omega arith

  pub from_here : (i : ℕ) → i < 38 → Holds b i → HoldsFrom b i
  from_here i near holds = (0, near, holds)

  pub from_next : (i : ℕ) → HoldsFrom b (next_place b i) → HoldsFrom b i
  from_next i (n, near, holds) = (suc n, near, holds)

  pub to_next : (i : ℕ) → (¬ Holds b i) → HoldsFrom b i → HoldsFrom b (next_place b i)
  to_next i not (zero, near, holds) = absurd (not holds)
  to_next i not (suc n, near, holds) = (n, near, holds)

  pub none_far : (i : ℕ) → 38 ≤ i → ¬ HoldsFrom b i
  none_far i far (n, near, holds) = let later = all_later n i in omega arith
