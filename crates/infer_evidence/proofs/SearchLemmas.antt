-- Where a text stands nowhere, and a range that grows.
use Rattle.infer_evidence.proofs.Common.{HasSame, ◌≡◌, ◌+◌, ◌-◌, ◌<◌, ◌≤◌, ◌∙◌, ℕ, List, length, get_or, ap, subst, sym, arith, inl, inr, cases_lt, Range, IsSame, place_in, OccursAt, StandsBy, Grows, Hit, IsHit, StandsNowhereBy}
use Rattle.infer_evidence.proofs.RangeLemmas.{in_a_row}

-- c has the byte of b at a place
abbrev pub HasByte : List ℕ → List ℕ → ℕ → Type 0
HasByte b c p = (p < length c) × (get_or c p 0 ≡ get_or b p 0)

-- a buffer with the byte of a hit has the text at none of its places
pub hit_refutes : (text b c : List ℕ) (start : ℕ) (h : Hit) → IsHit text b start h → HasByte b c h.place
    → (p : ℕ) → start ≤ p → p < h.next → ¬ OccursAt c text p
hit_refutes text b c start h is same p low lt o =
    let j = h.place - p in
    let here : p + j ≡ h.place = omega (arith, is.near, lt) in
    is.other p low lt (sym same.1 ∙ ap (λ q. get_or c q 0) (sym here) ∙ o.reads j (omega (arith, is.high, is.near, low, lt)))

-- so it has it nowhere before the next place, if it has it nowhere before the first
pub nowhere_more : (text b c : List ℕ) (start : ℕ) (h : Hit) → IsHit text b start h → HasByte b c h.place
    → ((p : ℕ) → p < start → ¬ OccursAt c text p) → (p : ℕ) → p < h.next → ¬ OccursAt c text p
nowhere_more text b c start h is same before p lt = elim (cases_lt p start) as (λ _. ¬ OccursAt c text p) [
  | inl early ↦ before p early
  | inr late ↦ hit_refutes text b c start h is same p late lt
]

-- and with all bytes of b from some place on nowhere there, if b has it nowhere
pub nowhere_after : (text b c : List ℕ) (from end : ℕ) (r : Range) → end ≤ length b → StandsNowhereBy text end b
    → r.place ≡ from → r.len ≡ end - from → r.step ≡ 1 → IsSame b c r → (p : ℕ) → from ≤ p → p + length text ≤ end → ¬ OccursAt c text p
nowhere_after text b c from end r within none place len step same p low high o =
    none p high (record {
      fits = omega (arith, within, high);
      reads = λ j lt. sym (in_a_row b c r step same (p + j) (omega (arith, place, low)) (omega (arith, place, len, low, high, lt))).1 ∙ o.reads j lt;
    })

-- what has the bytes of the longer range has those of the shorter, and the one more
pub grown_same : (b c : List ℕ) (r s : Range) (place : ℕ) → Grows r place s → IsSame b c s → IsSame b c r × HasByte b c place
grown_same b c r s place grows same = (
  λ k lt. subst (HasByte b c) (grows.before k lt) (same k (omega (arith, grows.len, lt))),
  subst (HasByte b c) grows.last (same r.len (omega (arith, grows.len))),
)

-- the bytes of a range end by a place
abbrev pub EndsBy : Range → ℕ → Type 0
EndsBy r end = (k : ℕ) → k < r.len → place_in r k < end

pub grown_ends : (r s : Range) (place end : ℕ) → Grows r place s → EndsBy r end → place < end → EndsBy s end
grown_ends r s place end grows inside here k lt = elim (cases_lt k r.len) as (λ _. place_in s k < end) [
  | inl early ↦ subst (λ p. p < end) (sym (grows.before k early)) (inside k early)
  | inr late ↦ let last : k ≡ r.len = omega (arith, grows.len, lt, late) in
      subst (λ p. p < end) (sym (ap (place_in s) last ∙ grows.last)) here
]

-- all bytes from a place on, up to an end, are those of each range between
pub same_between : (b c : List ℕ) (r all : Range) (from end : ℕ) → all.place ≡ from → all.len ≡ end - from → all.step ≡ 1 → from ≤ r.place → EndsBy r end
    → IsSame b c all → IsSame b c r
same_between b c r all from end place len step low ends same k lt =
    let high = ends k lt in
    in_a_row b c all step same (place_in r k) (grind (arith, place, low)) (grind (arith, place, len, high, low))

-- a text that is nowhere is not empty
pub some_text_of : (text b : List ℕ) (end : ℕ) → StandsNowhereBy text end b → 0 < length text
some_text_of text b end none = elim (cases_lt 0 (length text)) as (λ _. 0 < length text) [
  | inl some ↦ some
  | inr empty ↦ absurd (none 0 (omega (arith, empty)) (record { fits = omega (arith, empty); reads = λ j lt. absurd (omega (arith, empty, lt)) }))
]

-- a text that stands in b stands in whatever is as long and has the same bytes there
pub stands_same : (text b c : List ℕ) (n end p : ℕ) → n ≤ end → OccursAt b text p × (p + length text ≤ n)
    → p + length text ≤ length c → HasSame b c p (length text) → StandsBy text end c
stands_same text b c n end p le (o, high) long same = (
  p,
  record {
    stands = record {
      fits = long;
      reads = λ j lt. (same (p + j) (omega arith) (omega (arith, lt))).1 ∙ o.reads j lt;
    };
    low = omega arith;
    high = omega (arith, high, le);
  },
)
