-- What a piece asks, where all that it asks is in the buffer.
use Rattle.infer_more.proofs.Common.{◌≡◌, ◌↔◌, ◌+◌, ◌<◌, ◌≤◌, ℕ, zero, suc, Bool, true, false, IsTrue, List, [], ◌∷◌, length, ap, sym, ◌∙◌, arith, refl, ◌==◌, ◌&&◌, if◌then◌else◌, nat_le, slice_index, list_all, and_from, and_parts, eqb-true, le-leb, leb-true, lt-ltb, OccursAt, Bytes, Part, any_text, allows, between, has_part, stands_from_occurs, is_inside}
use Rattle.infer_sig.specs.Signature.{text, byte}

-- what is in the first bytes is in more of them
inside_more : (n m : ℕ) → n ≤ m → (part : Part) → IsTrue (is_inside n part) → IsTrue (is_inside m part)
inside_more n m le (text place t) h = let within : place + length t ≤ n = leb-true _ _ h in le-leb (place + length t) m (omega arith)
inside_more n m le (any_text place ts) h = h
inside_more n m le (byte place set) h = let within : place + 1 ≤ n = leb-true _ _ h in le-leb (place + 1) m (omega arith)

pub all_inside_more : (n m : ℕ) → n ≤ m → (parts : List Part) → IsTrue (list_all (is_inside n) parts) → IsTrue (list_all (is_inside m) parts)
all_inside_more n m le [] h = refl
all_inside_more n m le (part ∷ parts) h =
    let both = and_parts (is_inside n part) _ h in and_from (is_inside m part) _ (inside_more n m le part both.0) (all_inside_more n m le parts both.1)

-- a byte of a set
pub byte_read : (b : List ℕ) (place : ℕ) (set : Bytes) → place < length b → allows set (slice_index b place) ≡ has_part b (byte place set)
byte_read b place set lt = sym (ap (λ t. t && allows set (slice_index b place)) (lt-ltb place (length b) lt))

-- a byte of a range, which may be of one byte
module _ (place low high : ℕ) where
  abbrev pub ranged : Bool → Part
  ranged t = if t then text place (low ∷ []) else byte place (between low high)

  ranged_inside : (n : ℕ) (t : Bool) → IsTrue (is_inside n (ranged t)) → place < n
  ranged_inside n true h = let within : place + 1 ≤ n = leb-true _ _ h in omega arith
  ranged_inside n false h = let within : place + 1 ≤ n = leb-true _ _ h in omega arith

  pub range_inside : (n : ℕ) → IsTrue (is_inside n (ranged (low == high))) → place < n
  range_inside n h = ranged_inside n (low == high) h

  module _ (b : List ℕ) (lt : place < length b) where
    abbrev pub within : Bool
    within = nat_le low (slice_index b place) && nat_le (slice_index b place) high

    at_first : (k : ℕ) → k < 1 → slice_index b place ≡ low → slice_index b (place + k) ≡ slice_index (low ∷ []) k
    at_first zero less e = let here : place + 0 ≡ place = omega arith in ap (slice_index b) here ∙ e
    at_first (suc k) less e = absurd (omega arith)

    one_occurs : low ≡ high → IsTrue within ↔ OccursAt b (low ∷ []) place
    one_occurs same = (
      λ h. record {
        fits = omega arith;
        reads = λ k less.
            let both = and_parts (nat_le low (slice_index b place)) _ h in
            let least : low ≤ slice_index b place = leb-true _ _ both.0 in
            let most : slice_index b place ≤ high = leb-true _ _ both.1 in
            at_first k less (omega arith);
      },
      λ o.
          let here : place + 0 ≡ place = omega arith in
          let e : slice_index b place ≡ low = sym (ap (slice_index b) here) ∙ o.reads 0 (omega arith) in
          and_from (nat_le low (slice_index b place)) _ (le-leb low (slice_index b place) (omega arith)) (le-leb (slice_index b place) high (omega arith)),
    )

    ranged_read : (t : Bool) → (low == high) ≡ t → within ≡ has_part b (ranged t)
    ranged_read true e = stands_from_occurs place (low ∷ []) b within (omega arith) (one_occurs (eqb-true low high e))
    ranged_read false e = byte_read b place (between low high) lt

    pub range_read : within ≡ has_part b (ranged (low == high))
    range_read = ranged_read (low == high) refl
