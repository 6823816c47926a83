-- A row of which a buffer has the bytes is tried.
use Rattle.std.proofs.lemmas.Bool.{or_cases, or_left, or_right}
use Rattle.infer_more.proofs.Common.{◌≡◌, ◌↔◌, ℕ, zero, suc, ◌+◌, ◌-◌, ◌<◌, ◌≤◌, ◌==◌, inl, inr, Bool, true, false, IsTrue, List, [], ◌∷◌, ◌++◌, length, ap, sym, ◌∙◌, subst, arith, refl, nat_le, nat_lt, ◌&&◌, if◌then◌else◌, slice_index, list_all, list_any, option_map_or, cases_lt, eq-eqb, eqb-true, leb-true, lt-ltb, get_or_from_slice_get, slice_get_cases, at_least, Bytes, any_of, between, all_but, Part, any_text, fits, has_part, stands, StandsByPlace, is_listed, tried_parentless, candidate, candidates, has_byte, is_tried_parentless, is_covered, is_settled, Parentless, and_from, and_parts}
use Rattle.std.specs.List.{range_with_len}
use Rattle.std.proofs.lemmas.Bool.{ltb-true}
use Rattle.infer_sig.specs.Signature.{Alternative, text, byte}
use Rattle.infer_more.specs.Index.{all_of, entries_at, has_entry, is_met, is_picked, is_tested, picked, tried_at}
use Rattle.infer_more.specs.declared.index.Entry.{Entry}
use Rattle.infer_more.specs.declared.index.Spot.{Spot}

-- both of two tests pass
pub both_left : (a b : Bool) → IsTrue (a && b) → IsTrue a
both_left a b h = (and_parts a b h).0

pub both_right : (a b : Bool) → IsTrue (a && b) → IsTrue b
both_right a b h = (and_parts a b h).1

-- a number among the first or the second of two lists is among both
pub listed_left : (xs ys : List ℕ) (i : ℕ) → IsTrue (is_listed xs i) → IsTrue (is_listed (xs ++ ys) i)
listed_left [] ys i h = absurd (cc)
listed_left (x ∷ xs) ys i h = elim (or_cases (x == i) (is_listed xs i) h) [
  | inl e ↦ or_left (x == i) (is_listed (xs ++ ys) i) e
  | inr e ↦ or_right (x == i) (is_listed (xs ++ ys) i) (listed_left xs ys i e)
]

pub listed_right : (xs ys : List ℕ) (i : ℕ) → IsTrue (is_listed ys i) → IsTrue (is_listed (xs ++ ys) i)
listed_right [] ys i h = h
listed_right (x ∷ xs) ys i h = or_right (x == i) (is_listed (xs ++ ys) i) (listed_right xs ys i h)

-- a number of the range passes a test that all of it pass
all_of_range : (test : ℕ → Bool) (low n z : ℕ) → IsTrue (list_all test (range_with_len low n)) → low ≤ z → z < low + n → IsTrue (test z)
all_of_range test low zero z h le lt = absurd (omega arith)
all_of_range test low (suc n) z h le lt = elim (cases_lt low z) [
  | inl l ↦ all_of_range test (low + 1) n z (both_right (test low) _ h) (omega arith) (omega arith)
  | inr l ↦ let e : low ≡ z = omega arith in subst (λ y. IsTrue (test y)) e (both_left (test low) _ h)
]

pub all_of_listed : (test : ℕ → Bool) (z : ℕ) (xs : List ℕ) → IsTrue (list_all test xs) → IsTrue (list_any (λ y. z == y) xs) → IsTrue (test z)
all_of_listed test z [] h k = absurd (cc)
all_of_listed test z (x ∷ xs) h k = elim (or_cases (z == x) _ k) [
  | inl e ↦ let same : x ≡ z = sym (eqb-true z x e) in subst (λ y. IsTrue (test y)) same (both_left (test x) _ h)
  | inr e ↦ all_of_listed test z xs (both_right (test x) _ h) e
]

module _ (by_place : (place : ℕ) (t buf : List ℕ) → IsTrue (stands place t buf) ↔ StandsByPlace place t buf) (test : ℕ → Bool) (place : ℕ) (b : List ℕ) where
  -- the byte at the place is there and passes the test
  abbrev pub Passes : Type 0
  Passes = (place < length b) × IsTrue (test (slice_index b place))

  passes_text : (p : ℕ) (t : List ℕ) → IsTrue (is_settled test place (text p t)) → IsTrue (stands p t b) → Passes
  passes_text p t h k =
      let le : p ≤ place = leb-true p place (both_left (nat_le p place) _ h) in
      let e : p + (place - p) ≡ place = omega arith in
      elim (slice_get_cases t (place - p)).1 [
        | inl (x, lt, found, same) ↦
            let passed : IsTrue (test x) = subst (λ o. IsTrue (option_map_or test o false)) found (both_right (nat_le p place) _ h) in
            let here = (by_place p t b).0 k (place - p) lt in
            let at : slice_index b (p + (place - p)) ≡ x = here.1 ∙ get_or_from_slice_get t (place - p) x 0 found in
            let there : place < length b = omega (arith, here.0) in
            (there, subst (λ y. IsTrue (test y)) (sym at ∙ ap (slice_index b) e) passed)
        | inr (past, none) ↦ absurd (let no : false ≡ true = subst (λ o. IsTrue (option_map_or test o false)) none (both_right (nat_le p place) _ h) in cc)
      ]

  passes_byte : (p : ℕ) (set : Bytes) → IsTrue (is_settled test place (byte p set)) → IsTrue (has_part b (byte p set)) → Passes
  passes_byte p (any_of xs) h k =
      let e : p ≡ place = eqb-true p place (both_left (p == place) _ h) in
      let lt : p < length b = ltb-true p (length b) (both_left (nat_lt p (length b)) _ k) in (
        omega arith,
        subst (λ q. IsTrue (test (slice_index b q))) e
            (all_of_listed test (slice_index b p) xs (both_right (p == place) _ h) (both_right (nat_lt p (length b)) _ k)),
      )
  passes_byte p (between low high) h k =
      let e : p ≡ place = eqb-true p place (both_left (p == place) _ h) in
      let lt : p < length b = ltb-true p (length b) (both_left (nat_lt p (length b)) _ k) in
      let within = both_right (nat_lt p (length b)) _ k in
      let le : low ≤ slice_index b p = leb-true low (slice_index b p) (both_left (nat_le low (slice_index b p)) _ within) in
      let most : slice_index b p ≤ high = leb-true (slice_index b p) high (both_right (nat_le low (slice_index b p)) _ within) in (
        omega arith,
        subst (λ q. IsTrue (test (slice_index b q))) e
            (all_of_range test low (suc high - low) (slice_index b p) (both_right (p == place) _ h) le (omega arith)),
      )
  passes_byte p (all_but x) h k = absurd (cc)

  pub passes_part : (part : Part) → IsTrue (is_settled test place part) → IsTrue (has_part b part) → Passes
  passes_part (text p t) h k = passes_text p t h k
  passes_part (any_text p ts) h k = absurd (cc)
  passes_part (byte p set) h k = passes_byte p set h k

  passes_parts : (parts : List Part) → IsTrue (list_any (is_settled test place) parts) → IsTrue (list_all (has_part b) parts) → Passes
  passes_parts [] h k = absurd (cc)
  passes_parts (part ∷ parts) h k = elim (or_cases (is_settled test place part) _ h) [
    | inl e ↦ passes_part part e (both_left (has_part b part) _ k)
    | inr e ↦ passes_parts parts e (both_right (has_part b part) _ k)
  ]

  passes : (a : Alternative) → IsTrue (is_tested test place a) → IsTrue (fits b a) → Passes
  passes (at_least n parts) h k = passes_parts parts h (both_right (nat_le n (length b)) _ k)

-- a row with an entry for the byte that stands at a place is a candidate
candidate_here : (b : List ℕ) (i place x : ℕ) (e : Entry) → place < length b → slice_index b place ≡ x → IsTrue (e.row == i && (e.place == place && e.byte == x))
    → IsTrue (is_listed (candidate b e) i)
candidate_here b i place x e lt at h =
    let same_row : e.row ≡ i = eqb-true e.row i (both_left (e.row == i) _ h) in
    let rest = both_right (e.row == i) (e.place == place && e.byte == x) h in
    let same_place : e.place ≡ place = eqb-true e.place place (both_left (e.place == place) _ rest) in
    let same_byte : e.byte ≡ x = eqb-true e.byte x (both_right (e.place == place) _ rest) in
    let there : nat_lt e.place (length b) ≡ true = lt-ltb e.place (length b) (omega arith) in
    let here : slice_index b e.place ≡ e.byte = ap (slice_index b) same_place ∙ (at ∙ sym same_byte) in
    let on : has_byte b e.place e.byte ≡ true = and_from (nat_lt e.place (length b)) _ there (eq-eqb (slice_index b e.place) e.byte here) in
    subst (λ t. IsTrue (is_listed (if t then e.row ∷ [] else []) i)) (sym on) (or_left (e.row == i) false (eq-eqb e.row i same_row))

candidates_here : (b : List ℕ) (i place x : ℕ) (entries : List Entry) → place < length b → slice_index b place ≡ x → IsTrue (has_entry i entries place x)
    → IsTrue (is_listed (candidates b entries) i)
candidates_here b i place x [] lt at h = absurd (cc)
candidates_here b i place x (e ∷ entries) lt at h = elim (or_cases (e.row == i && (e.place == place && e.byte == x)) _ h) [
  | inl here ↦ listed_left (candidate b e) (candidates b entries) i (candidate_here b i place x e lt at here)
  | inr later ↦ listed_right (candidate b e) (candidates b entries) i (candidates_here b i place x entries lt at later)
]

module _ (by_place : (place : ℕ) (t buf : List ℕ) → IsTrue (stands place t buf) ↔ StandsByPlace place t buf) (b : List ℕ) (i : ℕ) where
  covered_in : (a : Alternative) (all some : List Entry) → IsTrue (list_any (λ e. e.row == i && is_tested (has_entry i all e.place) e.place a) some) → IsTrue (fits b a)
      → IsTrue (is_listed (candidates b all) i)
  covered_in a all [] h k = absurd (cc)
  covered_in a all (e ∷ some) h k = elim (or_cases (e.row == i && is_tested (has_entry i all e.place) e.place a) _ h) [
    | inl here ↦ let at = passes by_place (has_entry i all e.place) e.place b a (both_right (e.row == i) _ here) k in candidates_here b i e.place (slice_index b e.place) all at.0 refl at.1
    | inr later ↦ covered_in a all some later k
  ]

  pub covered_here : (a : Alternative) (entries : List Entry) → IsTrue (is_covered i a entries) → IsTrue (fits b a) → IsTrue (is_listed (candidates b entries) i)
  covered_here a entries h k = covered_in a entries entries h k

  -- the entries have the row where the byte stands
  met_here : (a : Alternative) (entries : List Entry) (place x : ℕ) → IsTrue (fits b a) → place < length b → slice_index b place ≡ x
      → IsTrue (is_met i a entries place x) → IsTrue (is_listed (candidates b entries) i)
  met_here a entries place x k lt at h = elim (or_cases (has_entry i entries place x) _ h) [
    | inl e ↦ candidates_here b i place x entries lt at e
    | inr e ↦ covered_here a entries e k
  ]

-- a row is picked at a spot
module _ (by_place : (place : ℕ) (t buf : List ℕ) → IsTrue (stands place t buf) ↔ StandsByPlace place t buf) (index : Parentless) (b : List ℕ) (i : ℕ) where
  picked_here : (a : Alternative) (s : Spot) → IsTrue (is_picked (entries_at index) i a s) → IsTrue (fits b a) → IsTrue (is_listed (tried_at index b s) i)
  picked_here a s h k =
      let here = passes by_place (λ x. is_met i a (entries_at index (s.first + x)) s.place x) s.place b a h k in
      let entries = entries_at index (s.first + slice_index b s.place) in
      let own : picked index b s ≡ entries = ap (λ t. if t then entries else []) (lt-ltb s.place (length b) here.0) in
      subst (λ (l : List Entry). IsTrue (is_listed (candidates b l) i)) (sym own) (met_here by_place b i a entries s.place (slice_index b s.place) k here.0 refl here.1)

  spots_here : (a : Alternative) (spots : List Spot) → IsTrue (list_any (is_picked (entries_at index) i a) spots) → IsTrue (fits b a)
      → IsTrue (is_listed (all_of (tried_at index b) spots) i)
  spots_here a [] h k = absurd (cc)
  spots_here a (s ∷ spots) h k = elim (or_cases (is_picked (entries_at index) i a s) _ h) [
    | inl e ↦ listed_left (tried_at index b s) (all_of (tried_at index b) spots) i (picked_here a s e k)
    | inr e ↦ listed_right (tried_at index b s) (all_of (tried_at index b) spots) i (spots_here a spots e k)
  ]

  pub parentless_here : (a : Alternative) → IsTrue (is_tried_parentless (entries_at index) index.spots.now i a) → IsTrue (fits b a) → IsTrue (is_listed (tried_parentless index b) i)
  parentless_here a h k = spots_here a index.spots.now h k
