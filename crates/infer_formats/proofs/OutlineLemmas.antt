-- Parts of the lines that buffers have which fit a relation.
use Rattle.infer_formats.proofs.Common.{[], ◌≡◌, ◌↔◌, ℕ, zero, suc, ◌+◌, ◌≤◌, true, IsTrue, List, ◌∷◌, length, arith, refl, slice_index, OccursAt, ◌<◌, and_from, le-leb, lt-ltb, or_left, or_right, nat_le, nat_lt, StandsByPlace, Part, accepts, allows, any_of, at_least, between, fits, has_part, stands}
use Rattle.infer_sig.specs.Signature.{byte, text}
use Rattle.infer_formats.proofs.GrowthLemmas.{there}
use Rattle.infer_sig.specs.Signature as fixed

-- a byte order mark
abbrev pub marked_line : fixed.Alternative
marked_line = at_least 3 (text 0 (0xEF ∷ 0xBB ∷ 0xBF ∷ []) ∷ [])

module _ (by_place : (place : ℕ) (t buf : List ℕ) → IsTrue (stands place t buf) ↔ StandsByPlace place t buf) (b : List ℕ) where
  pub occurs : (p : ℕ) (t : List ℕ) → OccursAt b t p → IsTrue (has_part b (text p t))
  occurs p t o = (by_place p t b).1 (λ k l. (let fits = o.fits in omega arith, o.reads k l))

  pub pair : (p x y : ℕ) → p + 2 ≤ length b → slice_index b p ≡ x → slice_index b (p + 1) ≡ y → IsTrue (has_part b (text p (x ∷ y ∷ [])))
  pair p x y le first second = (by_place p (x ∷ y ∷ []) b).1 each
    where
      each : StandsByPlace p (x ∷ y ∷ []) b
      each zero l = (omega arith, let e : p + 0 ≡ p = omega arith in rw e first)
      each (suc zero) l = (omega arith, second)
      each (suc (suc k)) l = absurd (omega arith)

  pub in_range : (p low high : ℕ) → p < length b → low ≤ slice_index b p → slice_index b p ≤ high → IsTrue (has_part b (byte p (between low high)))
  in_range p low high lt from to =
      and_from (nat_lt p (length b)) _ (lt-ltb p (length b) lt) (and_from (nat_le low (slice_index b p)) _ (le-leb low (slice_index b p) from) (le-leb (slice_index b p) high to))

  -- one part, in the first of the alternatives
  pub one : (n : ℕ) (part : Part) (others : List fixed.Alternative) → n ≤ length b → IsTrue (has_part b part) → IsTrue (accepts (at_least n (part ∷ []) ∷ others) b)
  one n part others le h =
      or_left (fits b (at_least n (part ∷ []))) (accepts others b) (and_from (nat_le n (length b)) _ (le-leb n (length b) le) (and_from (has_part b part) true h refl))

  -- and two
  pub two : (n : ℕ) (part next : Part) (others : List fixed.Alternative) → n ≤ length b → IsTrue (has_part b part) → IsTrue (has_part b next)
      → IsTrue (accepts (at_least n (part ∷ next ∷ []) ∷ others) b)
  two n part next others le h k =
      or_left (fits b (at_least n (part ∷ next ∷ []))) (accepts others b)
      (and_from (nat_le n (length b)) _ (le-leb n (length b) le) (and_from (has_part b part) _ h (and_from (has_part b next) true k refl)))

  pub other : (a : fixed.Alternative) (others : List fixed.Alternative) → IsTrue (accepts others b) → IsTrue (accepts (a ∷ others) b)
  other a others h = or_right (fits b a) (accepts others b) h

  pub begins : (n : ℕ) (t : List ℕ) → n ≤ length b → OccursAt b t 0 → IsTrue (accepts (at_least n (text 0 t ∷ []) ∷ []) b)
  begins n t le o = one n (text 0 t) [] le (occurs 0 t o)

  -- a first byte that is one of these, or a byte order mark
  pub marked : (first : fixed.Alternative) → OccursAt b (0xEF ∷ 0xBB ∷ 0xBF ∷ []) 0 → IsTrue (accepts (first ∷ marked_line ∷ []) b)
  marked first o = let le = o.fits in other first (marked_line ∷ []) (begins 3 (0xEF ∷ 0xBB ∷ 0xBF ∷ []) (omega arith) o)

  pub begins_among : (set : List ℕ) → 1 ≤ slice_index b 0 → IsTrue (allows (any_of set) (slice_index b 0))
      → IsTrue (accepts (at_least 1 (byte 0 (any_of set) ∷ []) ∷ marked_line ∷ []) b)
  begins_among set some is =
      let lt : 0 < length b = there b 0 some in
      one 1 (byte 0 (any_of set)) (marked_line ∷ []) (omega arith) (and_from (nat_lt 0 (length b)) _ (lt-ltb 0 (length b) lt) is)
