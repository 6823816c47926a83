-- The first key with a text stands in the slot of the text, and each key stands once.
use Rattle.std.proofs.Common.{◌≡◌, ◌+◌, ◌-◌, ◌<◌, ◌≤◌, ◌&&◌, ◌||◌, ◌∙◌, ℕ, zero, suc, Bool, true, false, IsTrue, List, [], ◌∷◌, ◌++◌, ap, drop, sym, subst, refl, arith, if◌then◌else◌, length, get_or, inl, inr, not, take}
use Rattle.std.proofs.lemmas.Bool.{and_from, and_parts, cases_Bool, cases_lt, leb-true, le-leb, ltb-true, lt-ltb}
use Rattle.std.proofs.lemmas.List.{take-append-le}
use Rattle.std.proofs.Math.Seq.{take-nil}
use Rattle.std.proofs.lemmas.Slice.Eq.{bytes_eq-Decides}
use Rattle.std.specs.Prelude.{nat_le, nat_lt}
use Rattle.std.specs.List.{find, list_any}
use Rattle.std.specs.Str.{bytes_eq}
use Rattle.infer_named.specs.Key.{Key}
use Rattle.infer_named.specs.Laws.{is_key_right, wrong_keys}
use Rattle.infer_named.specs.Names.{is_key, same_part, slot_of}
use Rattle.infer_named.specs.declared.table.Part.{Part}

-- where the slot of a text begins, and where it ends
abbrev pub begin_of : List ℕ → List ℕ → ℕ
begin_of starts text = get_or starts (slot_of text) 0

abbrev pub end_of : List ℕ → List ℕ → ℕ
end_of starts text = get_or starts (slot_of text + 1) 0

-- key i stands in its slot, which ends at the limit at the latest
abbrev pub is_placed : List ℕ → ℕ → ℕ → Key → Bool
is_placed starts limit i k = nat_le (begin_of starts k.text) i && (nat_lt i (end_of starts k.text) && nat_le (end_of starts k.text) limit)

-- and it is right, and stands once in its slot
abbrev pub is_right : List ℕ → ℕ → Key → List Key → Bool
is_right starts i k keys = is_key_right k && not (list_any (is_key k.part k.text) (take (end_of starts k.text - (i + 1)) keys))

-- the texts of the keys of which this is not so, from key i on
abbrev pub wrong_from : List ℕ → ℕ → ℕ → List Key → List (List ℕ)
wrong_from starts limit i [] = []
wrong_from starts limit i (k ∷ keys) =
    if is_placed starts limit i k && is_right starts i k keys then wrong_from starts limit (i + 1) keys else k.text ∷ wrong_from starts limit (i + 1) keys

-- the first of them is none of these, nor are those after
first_right : (starts : List ℕ) (limit i : ℕ) (k : Key) (keys : List Key) → wrong_from starts limit i (k ∷ keys) ≡ []
    → IsTrue (is_placed starts limit i k) × IsTrue (is_right starts i k keys) × (wrong_from starts limit (i + 1) keys ≡ [])
first_right starts limit i k keys e = elim (cases_Bool (is_placed starts limit i k && is_right starts i k keys)) [
  | inl on ↦ (let parts = and_parts (is_placed starts limit i k) (is_right starts i k keys) on in
      let later : wrong_from starts limit (i + 1) keys ≡ [] = rw on at e in (parts.0, parts.1, later))
  | inr off ↦ (let some : k.text ∷ wrong_from starts limit (i + 1) keys ≡ [] = rw off at e in absurd (cc))
]

-- where a key stands
placed : (starts : List ℕ) (limit i : ℕ) (k : Key) → IsTrue (is_placed starts limit i k)
    → (begin_of starts k.text ≤ i) × (i < end_of starts k.text) × (end_of starts k.text ≤ limit)
placed starts limit i k h =
    let (low, high) = and_parts (nat_le (begin_of starts k.text) i) (nat_lt i (end_of starts k.text) && nat_le (end_of starts k.text) limit) h in
    let (within, last) = and_parts (nat_lt i (end_of starts k.text)) (nat_le (end_of starts k.text) limit) high in
    (leb-true _ _ low, ltb-true _ _ within, leb-true _ _ last)

-- a test that only keys of one slot pass, which begins at a and ends at b
module _ (starts : List ℕ) (limit : ℕ) (p : Key → Bool) (a b : ℕ) (has : (k : Key) → IsTrue (p k) → (begin_of starts k.text ≡ a) × (end_of starts k.text ≡ b)) where
  fails : (i : ℕ) (k : Key) → IsTrue (is_placed starts limit i k) → (¬ ((a ≤ i) × (i < b))) → p k ≡ false
  fails i k h out = elim (cases_Bool (p k)) [
    | inl on ↦ absurd (out (let at = placed starts limit i k h in let is = has k on in (subst (λ n. n ≤ i) is.0 at.0, subst (λ n. i < n) is.1 at.1)))
    | inr off ↦ off
  ]

  -- finds none after the slot
  found_before : (i : ℕ) (keys : List Key) → wrong_from starts limit i keys ≡ [] → find p keys ≡ find p (take (b - i) keys)
  found_before i [] e = ap (find p) (sym (take-nil (b - i)))
  found_before i (k ∷ keys) e =
      let (at, once, later) = first_right starts limit i k keys e in
      let after = found_before (i + 1) keys later in elim (cases_lt i b) [
        | inl before ↦ (
            let more : b - i ≡ suc (b - (i + 1)) = omega arith in rw more (elim (cases_Bool (p k)) [
              | inl on ↦ rw on refl
              | inr off ↦ rw off after
            ]))
        | inr past ↦ (
            let none : b - i ≡ 0 = omega arith in
            let still : b - (i + 1) ≡ 0 = omega arith in
            let out : p k ≡ false = fails i k at (λ both. absurd (omega arith)) in
            rw none (rw out (rw still at after)))
      ]

  any_before : (i : ℕ) (keys : List Key) → wrong_from starts limit i keys ≡ [] → list_any p keys ≡ list_any p (take (b - i) keys)
  any_before i [] e = ap (list_any p) (sym (take-nil (b - i)))
  any_before i (k ∷ keys) e =
      let (at, once, later) = first_right starts limit i k keys e in
      let after = any_before (i + 1) keys later in elim (cases_lt i b) [
        | inl before ↦ (let more : b - i ≡ suc (b - (i + 1)) = omega arith in rw more (ap (λ r. p k || r) after))
        | inr past ↦ (
            let none : b - i ≡ 0 = omega arith in
            let still : b - (i + 1) ≡ 0 = omega arith in
            let out : p k ≡ false = fails i k at (λ both. absurd (omega arith)) in
            rw none (rw out (rw still at after)))
      ]

  -- nor before it
  pub found_in : (n i : ℕ) → a ≡ i + n → (keys : List Key) → wrong_from starts limit i keys ≡ [] → find p keys ≡ find p (take (b - a) (drop n keys))
  found_in zero i is keys e = let same : b - i ≡ b - a = omega arith in found_before i keys e ∙ ap (λ m. find p (take m keys)) same
  found_in (suc n) i is [] e = ap (find p) (sym (take-nil (b - a)))
  found_in (suc n) i is (k ∷ keys) e =
      let (at, once, later) = first_right starts limit i k keys e in
      let out : p k ≡ false = fails i k at (λ both. absurd (omega arith)) in
      rw out (found_in n (i + 1) (omega arith) keys later)

-- a key with a text stands in the text's slot
pub same_slot : (starts : List ℕ) (part : Part) (text : List ℕ) (k : Key) → IsTrue (is_key part text k)
    → (begin_of starts k.text ≡ begin_of starts text) × (end_of starts k.text ≡ end_of starts text)
same_slot starts part text k h =
    let parts = and_parts (same_part part k.part) (bytes_eq text k.text) h in
    let same : k.text ≡ text = sym ((bytes_eq-Decides _ _).0 parts.1) in (ap (begin_of starts) same, ap (end_of starts) same)

-- so if none is wrong in its slot, none is wrong
pub none_wrong : (starts : List ℕ) (limit i : ℕ) (keys : List Key) → wrong_from starts limit i keys ≡ [] → wrong_keys keys ≡ []
none_wrong starts limit i [] e = refl
none_wrong starts limit i (k ∷ keys) e =
    let (at, once, later) = first_right starts limit i k keys e in
    let q = is_key k.part k.text in
    let parts = and_parts (is_key_right k) (not (list_any q (take (end_of starts k.text - (i + 1)) keys))) once in
    let whole = any_before starts limit q (begin_of starts k.text) (end_of starts k.text) (same_slot starts k.part k.text) (i + 1) keys later in
    let alone : IsTrue (not (list_any q keys)) = subst (λ r. IsTrue (not r)) (sym whole) parts.1 in
    let right : (is_key_right k && not (list_any q keys)) ≡ true = and_from (is_key_right k) (not (list_any q keys)) parts.0 alone in
    rw right (none_wrong starts limit (i + 1) keys later)

-- two lists of keys, one after the other, if the slots of the first end with it
pub right_append : (starts : List ℕ) (limit i n : ℕ) (xs ys : List Key) → IsTrue (nat_le (i + n) limit) → length xs ≡ n → wrong_from starts (i + n) i xs ≡ []
    → wrong_from starts limit (i + n) ys ≡ [] → wrong_from starts limit i (xs ++ ys) ≡ []
right_append starts limit i n [] ys low long e g = let same : i + n ≡ i = omega arith in rw same at g
right_append starts limit i n (k ∷ xs) ys low long e g =
    let (at, once, later) = first_right starts (i + n) i k xs e in
    let (front, within, last) = placed starts (i + n) i k at in
    let most : i + n ≤ limit = leb-true _ _ low in
    let same : i + n ≡ (i + 1) + (n - 1) = omega arith in
    let rest = right_append starts limit (i + 1) (n - 1) xs ys (rw same at low) (omega arith) (rw same at later) (rw same at g) in
    let inside : end_of starts k.text - (i + 1) ≤ length xs = omega arith in
    let cut = take-append-le (end_of starts k.text - (i + 1)) xs ys inside in
    let here : IsTrue (is_placed starts limit i k) = and_from (nat_le (begin_of starts k.text) i) _ (le-leb _ _ front)
    (and_from (nat_lt i (end_of starts k.text)) _ (lt-ltb _ _ within) (le-leb (end_of starts k.text) limit (omega arith))) in
    let right : IsTrue (is_right starts i k (xs ++ ys)) = subst (λ l. IsTrue (is_key_right k && not (list_any (is_key k.part k.text) l))) (sym cut) once in
    let both : (is_placed starts limit i k && is_right starts i k (xs ++ ys)) ≡ true = and_from (is_placed starts limit i k) (is_right starts i k (xs ++ ys)) here right in
    rw both rest
