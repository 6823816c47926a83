-- Laws of further rows.
use Rattle.std.proofs.lemmas.Bool.{and_parts, or_cases, or_left, not_from_false}
use Rattle.infer_more.proofs.Common.{◌↔◌, ◌+◌, ℕ, ◌<◌, ◌≤◌, inl, inr, true, false, IsTrue, List, [], ◌∷◌, ◌++◌, Option, None, Some, length, get_or, arith, nat_le, refl, subst, sym, ◌≡◌, zero, suc, codes, ◌⊎◌, not, slice_index, HoldsAt, list_all, list_any, cases_lt, leb-true, nat_tests, get_or_from_slice_get, slice_get_cases, OccursAt, HasBracket, HasRoot, there, Lasts, StandsByPlace, at_least, Part, any_text, accepts, fits, has_part, stands, IsFirstOf, is_white, is_settled, AllLast, IsLost, is_dark, is_filled, is_lasting, is_plain, lines, outline, Further, Accepted, Fits, binary_bytes, bytes, related, plain_text, root, root_with, json_lines, json_text, further, Widens, IsFirst, not_both, cases_Bool}
use Rattle.infer_formats.specs.Relation.{first_key, first_key_with}
use Rattle.std.proofs.Common.{All, slice_get}
use Rattle.std.proofs.lemmas.List.Elements.{All-cons, All-nil, AllWithin-from_all}
use Rattle.std.proofs.lemmas.List.Sums.{AllPass-from_list_all}
use Rattle.infer_formats.specs.Laws as Inside
use Rattle.infer_sig.specs.Signature as fixed
use Rattle.infer.specs.Buffer.{IsBuffer}
use Rattle.infer_sig.specs.Signature.{text, byte}
use Rattle.infer.specs.Laws.{IsNotLater}
use Rattle.infer_more.specs.Laws.{IsSteady, MayBeLost, NoneIsBlank, is_dark_alternative, is_dark_part, is_dark_relation, is_some_alternative, lasts}
use Rattle.infer_notation.specs.Alternative.{Alternative}
use Rattle.infer_more.proofs.IndexLemmas.{both_left, both_right, passes_part}
use Rattle.infer_more.proofs.OutlineLemmas.{has_lines, has_outline, past}

-- ---- growing buffers

module _ (inside : Inside.Growth) (fixed_lasts : (signature : List fixed.Alternative) → Lasts (λ b. IsTrue (accepts signature b))) (b more : List ℕ) where
  bytes_last : (a : fixed.Alternative) → IsTrue (fits b a) → IsTrue (fits (b ++ more) a)
  bytes_last a h = elim (or_cases (fits (b ++ more) a) false (fixed_lasts (a ∷ []) b more (or_left (fits b a) false h))) [ inl e ↦ e | inr e ↦ absurd (cc) ]

  fits_last : (a : Alternative) → IsTrue (is_lasting a) → Fits a b → Fits a (b ++ more)
  fits_last (bytes a) l h = bytes_last a h
  fits_last (binary_bytes a) l h = (bytes_last a h.0, inside.binary b more h.1)
  fits_last (related r) l h = inside.relation r l b more h

  accepted_last : (signature : List Alternative) → IsTrue (lasts signature) → Accepted signature b → Accepted signature (b ++ more)
  accepted_last [] l h = h
  accepted_last (a ∷ others) l (inl h) = inl (fits_last a (both_left (is_lasting a) _ l) h)
  accepted_last (a ∷ others) l (inr h) = inr (accepted_last others (both_right (is_lasting a) _ l) h)

pub all_last : Inside.Growth → ((signature : List fixed.Alternative) → Lasts (λ b. IsTrue (accepts signature b))) → AllLast
all_last inside fixed_lasts signature l b more h = accepted_last inside fixed_lasts b more signature l h

-- a list that is told to be one of bytes
pub are_bytes : (xs : List ℕ) → list_all (λ x. nat_le x 255) xs ≡ true → IsBuffer xs
are_bytes [] told = All-nil (λ x. x < 256)
are_bytes (x ∷ xs) told =
    let both = and_parts (nat_le x 255) (list_all (λ x. nat_le x 255) xs) told in
    All-cons (λ x. x < 256) x xs (let low = leb-true x 255 both.0 in omega arith) (are_bytes xs both.1)

-- a letter is plain text, and with 00 after it binary data
pub text_lost : IsLost (related plain_text)
text_lost = (
  codes "a",
  0 ∷ [],
  are_bytes (codes "a" ++ 0 ∷ []) refl,
  inr (omega arith, λ (k, lt, is). let first : slice_index (codes "a") 0 ≡ 0x61 = refl in letter k lt is),
  λ h. elim h [
    | inl (mark, is, o) ↦ unmarked mark is o
    | inr (some, plain) ↦ plain (1, omega arith, inl (omega arith))
  ],
)
  where
    letter : (k : ℕ) → k < 1 → ((slice_index (codes "a") k ≤ 0x08) ⊎ (slice_index (codes "a") k ≡ 0x0B) ⊎ ((0x0E ≤ slice_index (codes "a") k) × (slice_index (codes "a") k ≤ 0x1A)) ⊎ ((0x1C ≤ slice_index (codes "a") k) × (slice_index (codes "a") k ≤ 0x1F))) → ⊥
    letter zero lt is = grind arith
    letter (suc k) lt is = absurd (omega arith)

    unmarked : (mark : List ℕ) → (mark ≡ 0xEF ∷ 0xBB ∷ 0xBF ∷ []) ⊎ (mark ≡ 0xFE ∷ 0xFF ∷ []) ⊎ (mark ≡ 0xFF ∷ 0xFE ∷ []) → OccursAt (codes "a" ++ 0 ∷ []) mark 0 → ⊥
    unmarked mark (inl e) o = let other : OccursAt (codes "a" ++ 0 ∷ []) (0xEF ∷ 0xBB ∷ 0xBF ∷ []) 0 = subst (λ m. OccursAt (codes "a" ++ 0 ∷ []) m 0) e o in let first = other.reads 0 (omega arith) in absurd (omega arith)
    unmarked mark (inr (inl e)) o = let other : OccursAt (codes "a" ++ 0 ∷ []) (0xFE ∷ 0xFF ∷ []) 0 = subst (λ m. OccursAt (codes "a" ++ 0 ∷ []) m 0) e o in let first = other.reads 0 (omega arith) in absurd (omega arith)
    unmarked mark (inr (inr e)) o = let other : OccursAt (codes "a" ++ 0 ∷ []) (0xFF ∷ 0xFE ∷ []) 0 = subst (λ m. OccursAt (codes "a" ++ 0 ∷ []) m 0) e o in let first = other.reads 0 (omega arith) in absurd (omega arith)

-- bytes after a buffer keep what widens its answer, unless they take it away
module _ (all_lasts : AllLast) (parent : Option ℕ) (short more : List ℕ) where
  stays : (i : ℕ) (r : Further) → IsTrue (lasts (get_or further i r).signature) → HoldsAt (Widens parent short) further i → Widens parent (short ++ more) (get_or further i r)
  stays i r l h = let w = h r in (w.0, all_lasts (get_or further i r).signature l short more w.1)

  same_row : (i : ℕ) (r : Further) → slice_get further i ≡ Some r → get_or further i r ≡ r
  same_row i r found = get_or_from_slice_get further i r r found

  lost : (i : ℕ) (r : Further) → Some r ≡ slice_get further i → IsTrue (not (lasts r.signature)) → HoldsAt (λ s. IsTrue (not (lasts s.signature))) further i
  lost i r e h d = subst (λ s. IsTrue (not (lasts s.signature))) (sym (get_or_from_slice_get further i r d (sym e))) h

  -- a row that does not widen the longer buffer's answer may be lost
  may_be_lost : (i : ℕ) → IsFirst (Widens parent short) further i → ((r : Further) → i < length further → ¬ Widens parent (short ++ more) (get_or further i r)) → MayBeLost (Some i)
  may_be_lost i h none = elim (slice_get_cases further i).1 [
    | inl (r, lt, found, same) ↦ elim (cases_Bool (lasts r.signature)) [
      | inl l ↦ absurd (none r lt (stays i r (subst (λ s. IsTrue (lasts s.signature)) (sym (same_row i r found)) l) h.here))
      | inr l ↦ lost i r (sym found) (not_from_false _ l)
    ]
    | inr (past, none) ↦ absurd (let within = h.within in omega arith)
  ]

  steady_at : (before after : Option ℕ) → IsFirstOf (Widens parent short) further before → IsFirstOf (Widens parent (short ++ more)) further after
      → IsNotLater after before ⊎ MayBeLost before
  steady_at None after h k = inl tt
  steady_at (Some i) None h k = inr (may_be_lost i h (λ r lt. k i r (omega arith) lt))
  steady_at (Some i) (Some j) h k = elim (cases_lt i j) [
    | inl early ↦ inr (may_be_lost i h (λ r lt. k.before i r (omega arith) early))
    | inr le ↦ inl le
  ]

-- where a byte of the text is that is no white space
dark_place : (t : List ℕ) → IsTrue (list_any (λ x. not (is_white x)) t) → (i : ℕ) × (i < length t) × IsTrue (not (is_white (slice_index t i)))
dark_place [] h = absurd (cc)
dark_place (x ∷ t) h = elim (or_cases (not (is_white x)) (list_any (λ y. not (is_white y)) t) h) [
  | inl dark ↦ (0, omega arith, dark)
  | inr later ↦ let (i, lt, dark) = dark_place t later in (suc i, omega arith, dark)
]

pub steady : AllLast → IsSteady
steady all_lasts parent short more before after = steady_at all_lasts parent short more before after

module _ (by_place : (place : ℕ) (t buf : List ℕ) → IsTrue (stands place t buf) ↔ StandsByPlace place t buf) (b : List ℕ) (white : All (λ x. IsTrue (is_white x)) b) where
  refused_at : (p : ℕ) (part : Part) → IsTrue (is_settled (λ x. not (is_white x)) p part) → IsTrue (has_part b part) → ⊥
  refused_at p part h k =
      let here = passes_part by_place (λ x. not (is_white x)) p b part h k in
      not_both (is_white (slice_index b p)) (AllWithin-from_all (λ x. IsTrue (is_white x)) b white p 0 (omega arith) here.0) here.1

  -- a text with a byte that is no white space
  refused_text : (p : ℕ) (t : List ℕ) → IsTrue (list_any (λ x. not (is_white x)) t) → IsTrue (stands p t b) → ⊥
  refused_text p t h k =
      let (i, lt, dark) = dark_place t h in
      let (within, same) = (by_place p t b).0 k i lt in
      let is = AllWithin-from_all (λ x. IsTrue (is_white x)) b white (p + i) 0 (omega arith) within in
      not_both (is_white (slice_index b (p + i))) is (subst (λ x. IsTrue (not (is_white x))) (sym same) dark)

  refused_part : (part : Part) → IsTrue (is_dark_part part) → IsTrue (has_part b part) → ⊥
  refused_part (text p t) h k = refused_text p t h k
  refused_part (any_text p ts) h k = refused_at p (any_text p ts) h k
  refused_part (byte p set) h k = refused_at p (byte p set) h k

  refused_parts : (parts : List Part) → IsTrue (list_any is_dark_part parts) → IsTrue (list_all (has_part b) parts) → ⊥
  refused_parts [] h k = cc
  refused_parts (part ∷ parts) h k = elim (or_cases (is_dark_part part) _ h) [
    | inl e ↦ refused_part part e (both_left (has_part b part) _ k)
    | inr e ↦ refused_parts parts e (both_right (has_part b part) _ k)
  ]

  refused : (signature : List fixed.Alternative) → IsTrue (list_all is_dark_alternative signature) → IsTrue (accepts signature b) → ⊥
  refused [] h k = cc
  refused (at_least n parts ∷ signature) h k = elim (or_cases (fits b (at_least n parts)) _ k) [
    | inl e ↦ refused_parts parts (both_left (list_any is_dark_part parts) _ h) (both_right (nat_le n (length b)) _ e)
    | inr e ↦ refused signature (both_right (list_any is_dark_part parts) _ h) e
  ]

unfilled : (signature : List fixed.Alternative) → IsTrue (list_all is_some_alternative signature) → IsTrue (accepts signature []) → ⊥
unfilled [] h k = cc
unfilled (at_least n parts ∷ signature) h k = elim (or_cases (fits [] (at_least n parts)) _ k) [
  | inl e ↦
      let some = leb-true 1 n (both_left (nat_le 1 n) _ h) in
      let short = leb-true n 0 (both_left (nat_le n 0) _ e) in
      absurd (omega arith)
  | inr e ↦ unfilled signature (both_right (nat_le 1 n) _ h) e
]

module _ (by_place : (place : ℕ) (t buf : List ℕ) → IsTrue (stands place t buf) ↔ StandsByPlace place t buf) (leads : Inside.Leads) where
  small_white : (b : List ℕ) → All (λ x. IsTrue (is_white x)) b → (i : ℕ) → slice_index b i < 256
  small_white b white i = elim (cases_lt i (length b)) [
    | inl lt ↦ let is = AllWithin-from_all (λ x. IsTrue (is_white x)) b white i 0 (omega arith) lt in grind (arith, nat_tests)
    | inr le ↦ past b i le
  ]

  by_outline : (b : List ℕ) → All (λ x. IsTrue (is_white x)) b → (a : Alternative) → IsTrue (list_all is_dark_alternative (lines a)) → ¬ Fits a b
  by_outline b white a dark h = refused by_place b white (lines a) dark (has_lines leads b a (λ plain. small_white b white) h)

  -- no markup is white space: an element starts in it
  no_markup : (b : List ℕ) → All (λ x. IsTrue (is_white x)) b → (name : List ℕ) → ¬ HasRoot name b
  no_markup b white name h =
      let (k, e, other) = leads.element name b h in
      let lt : k < length b = there b k (omega arith) in
      let is = AllWithin-from_all (λ x. IsTrue (is_white x)) b white k 0 (omega arith) lt in
      grind (arith, nat_tests)

  -- nor is JSON: it has a bracket
  no_json : (b : List ℕ) → All (λ x. IsTrue (is_white x)) b → ¬ HasBracket b
  no_json b white (k, is) =
      let lt : k < length b = there b k (grind arith) in
      let at = AllWithin-from_all (λ x. IsTrue (is_white x)) b white k 0 (omega arith) lt in
      grind (arith, nat_tests)

  refused_alternative : (b : List ℕ) → All (λ x. IsTrue (is_white x)) b → (a : Alternative) → IsTrue (is_dark_relation a) → ¬ Fits a b
  refused_alternative b white (related (root name)) dark h = no_markup b white name h
  refused_alternative b white (related (root_with name t)) dark h = no_markup b white name (leads.root_with name t b h)
  refused_alternative b white (related json_lines) dark h = no_json b white (leads.json_lines b h).1
  refused_alternative b white (related json_text) dark h = no_json b white (leads.json b h).1
  refused_alternative b white (related (first_key k)) dark h = no_json b white (leads.key k b h)
  refused_alternative b white (related (first_key_with k v)) dark h = no_json b white (leads.value k v b h)
  refused_alternative b white a dark h = by_outline b white a dark h

  refused_signature : (b : List ℕ) → All (λ x. IsTrue (is_white x)) b → (signature : List Alternative) → IsTrue (list_all is_dark_relation signature) → ¬ Accepted signature b
  refused_signature b white [] dark h = h
  refused_signature b white (a ∷ others) dark (inl h) = refused_alternative b white a (both_left (is_dark_relation a) _ dark) h
  refused_signature b white (a ∷ others) dark (inr h) = refused_signature b white others (both_right (is_dark_relation a) _ dark) h

  pub none_is_blank : IsTrue (list_all is_dark further) → IsTrue (list_all is_filled further) → NoneIsBlank
  none_is_blank dark filled = record {
    white = λ b white k d le lt (h, other).
        let r = get_or further k d in
        elim (or_cases (list_any is_plain r.signature) _ (AllPass-from_list_all is_dark further dark k d lt)) [
          | inl plain ↦ not_both _ plain other
          | inr relations ↦ refused_signature b white r.signature relations h
        ];
    empty = λ k d le lt h.
        let r = get_or further k d in
        unfilled (outline r.signature) (AllPass-from_list_all is_filled further filled k d lt) (has_outline leads [] (λ i. past [] i (omega arith)) r.signature h);
  }
