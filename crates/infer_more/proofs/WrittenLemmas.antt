-- What is written of the sample of a row, and which rows have none.
use Rattle.infer_more.proofs.Common.{◌↔◌, IfSome, MatchOption, is_some, ◌≡◌, ◌≢◌, ◌⊎◌, ◌≤◌, ◌<◌, ◌+◌, ◌-◌, ℕ, Bool, true, false, IsTrue, inl, inr, List, [], ◌∷◌, ◌++◌, Option, None, Some, ap, drop, length, max, option_map, subst, sym, take, unwrap_or, ◌∙◌, arith, refl, nat_le, ◌==◌, ◌||◌, if◌then◌else◌, HoldsAt, list_all, option_map_or, leb-true, nat_tests, length-replicate, length-take-le, get_or_from_slice_get, slice_get-map, slice_get_cases, slice_get_past, slice_get_within, Part, any_text, BuiltIn, put, with_parts, zeros, ROW_COUNT, length-table, alternative_listed, row_listed, Further, is_inside, further, Reaches, built_in_sample, further_sample, has_room, model, parent_sample, parts_of, written, SAMPLE_SIZE, FurtherRow}
use Rattle.std.proofs.Common.{length-append, length-drop, slice_get}
use Rattle.std.proofs.Math.Seq.{drop-append-add, take-append-add}
use Rattle.std.proofs.lemmas.List.{drop-replicate, take-replicate, take_at}
use Rattle.infer_sig.specs.Signature.{text, byte}
use Rattle.infer.specs.Row.{Row}
use Rattle.infer.specs.Samples.{HoldsSample, chosen, sample_of, with_part}
use Rattle.infer.specs.Table as built_in
use Rattle.infer.specs.declared.table.rows.TheConstants.{DLL, EPUB_ARCHIVE}
use Rattle.infer_sig.specs.Signature as fixed
use Rattle.infer_more.specs.Samples.{AllReach, HasNoSample, has_room_after, joined_sample, prolog, row_model}
use Rattle.infer_formats.specs.Relation.{least_of}
use Rattle.infer.specs.declared.samples.TheConstants as built_in_samples
use Rattle.infer_more.specs.Listed.{alternatives_of}
use Rattle.infer_more.specs.declared.row_data.Alternative as Listed
use Rattle.infer_more.proofs.IndexLemmas.{both_left, both_right}

-- the sample of a row that is found
abbrev sample_found : Bool → Option (Row BuiltIn) → Option (List ℕ)
sample_found r o = if r then None else option_map (λ row. sample_of row.signature) o

no_sample : (r : Bool) (o : Option (Row BuiltIn)) → o ≡ None → sample_found r o ≡ None
no_sample true o e = refl
no_sample false o e = ap (option_map (λ (row : Row BuiltIn). sample_of row.signature)) e

pub none_built_in : (i : ℕ) → (i ≡ DLL) ⊎ (i ≡ EPUB_ARCHIVE) ⊎ (ROW_COUNT ≤ i) → built_in_sample i ≡ None
none_built_in i (inl e) = rw e refl
none_built_in i (inr (inl e)) = rw e refl
none_built_in i (inr (inr le)) =
    let many = length-table in no_sample (i == DLL || i == EPUB_ARCHIVE) (slice_get built_in.table i) (slice_get_past built_in.table i (omega arith))

-- the sample is what the n bytes are
pub some_built_in : (i n : ℕ) (bytes : List ℕ) → i ≢ DLL → i ≢ EPUB_ARCHIVE → i < length built_in.table → HoldsAt (HoldsSample n bytes) built_in.table i
    → (built_in_sample i ≡ Some (take n bytes)) × (length (take n bytes) ≡ n)
some_built_in i n bytes not_dll not_epub lt holds = elim (slice_get_cases built_in.table i).1 [
  | inl (r, within, found, same) ↦
      let h : HoldsSample n bytes r = subst (HoldsSample n bytes) same (holds r) in
      let tested : (i == DLL || i == EPUB_ARCHIVE) ≡ false = grind (arith, nat_tests) in
      let front : take n bytes ≡ sample_of r.signature = ap (take n) h.1 ∙ take_at (sample_of r.signature) (zeros (built_in_samples.SAMPLE_SIZE - n)) n (sym h.0) in
      let read : built_in_sample i ≡ Some (sample_of r.signature)
      = ap (λ t. sample_found t (slice_get built_in.table i)) tested ∙ ap (option_map (λ (row : Row BuiltIn). sample_of row.signature)) found in
      (read ∙ ap Some (sym front), ap length front ∙ sym h.0)
  | inr (past, none) ↦ absurd (omega arith)
]

pub put_front : (s old : List ℕ) → put 0 s (zeros SAMPLE_SIZE) ≡ written (Some s) old
put_front s old = let from : 0 + length s ≡ length s = omega arith in rw from (ap (λ l. s ++ l) (drop-replicate (length s) SAMPLE_SIZE 0))

-- the sample of the parent with zeros after it, and its length
pub written_parent : (o : Option (List ℕ)) → written o (zeros SAMPLE_SIZE) ≡ unwrap_or o [] ++ zeros (SAMPLE_SIZE - length (unwrap_or o []))
written_parent None = refl
written_parent (Some s) = refl

pub counted_parent : (o : Option (List ℕ)) → unwrap_or (option_map length o) 0 ≡ length (unwrap_or o [])
counted_parent None = refl
counted_parent (Some s) = refl

-- ---- further rows

-- the model of the first alternative
first_model : (row : FurtherRow) (a : Listed.Alternative) (before : List ℕ) → Some a ≡ slice_get (alternatives_of row) 0 → before ≡ prolog row.parent
    → row_model (row_listed row) ≡ Some (model before (alternative_listed a))
first_model row a before first is =
    ap (option_map (model (prolog row.parent))) (slice_get-map alternative_listed (alternatives_of row) 0 ∙ ap (option_map alternative_listed) (sym first))
    ∙ ap (λ v. Some (model v (alternative_listed a))) (sym is)

-- each part is written over a place that is there
length-put : (place : ℕ) (t b : List ℕ) → place + length t ≤ length b → length (put place t b) ≡ length b
length-put place t b le = omega (arith, length-append (take place b) (t ++ drop (place + length t) b), length-append t (drop (place + length t) b), length-take-le place b (omega arith), length-drop (place + length t) b)

length-part : (n : ℕ) (part : Part) (b : List ℕ) → length b ≡ n → IsTrue (is_inside n part) → length (with_part part b) ≡ n
length-part n (text place t) b e h = length-put place t b (let le = leb-true _ _ h in omega arith) ∙ e
length-part n (any_text place ts) b e h = absurd (cc)
length-part n (byte place set) b e h = length-put place (chosen set ∷ []) b (let le = leb-true _ _ h in omega arith) ∙ e

length-parts : (n : ℕ) (parts : List Part) (b : List ℕ) → length b ≡ n → IsTrue (list_all (is_inside n) parts) → length (with_parts parts b) ≡ n
length-parts n [] b e h = e
length-parts n (part ∷ parts) b e h =
    length-parts n parts (with_part part b) (length-part n part b e (both_left (is_inside n part) _ h)) (both_right (is_inside n part) _ h)

module _ (row : FurtherRow) (a : Listed.Alternative) (before : List ℕ) (first : Some a ≡ slice_get (alternatives_of row) 0) (is : before ≡ prolog row.parent)
    (room : IsTrue (has_room (row_listed row))) where
  room_for : IsTrue (has_room_after (length (parent_sample row.parent)) (model before (alternative_listed a)))
  room_for = subst (λ o. IsTrue (option_map_or (has_room_after (length (parent_sample row.parent))) o false)) (first_model row a before first is) room

  pub least_fits : least_of (model before (alternative_listed a)) ≤ SAMPLE_SIZE
  least_fits =
      let most = max (length (parent_sample row.parent)) (least_of (model before (alternative_listed a))) in
      let le = leb-true _ _ (both_left (nat_le most SAMPLE_SIZE) _ room_for) in omega arith

-- the sample's zeros are the first of those that were written
front_zeros : (p : List ℕ) (n least : ℕ) → n ≡ max (length p) least → n ≤ SAMPLE_SIZE → take n (p ++ zeros (SAMPLE_SIZE - length p)) ≡ p ++ zeros (least - length p)
front_zeros p n least m le =
    let parted : n ≡ length p + (least - length p) = omega arith in
    rw parted (take-append-add p (zeros (SAMPLE_SIZE - length p)) (least - length p) ∙ ap (λ l. p ++ l) (take-replicate (least - length p) (SAMPLE_SIZE - length p) 0 (omega arith)))

rest_zeros : (p : List ℕ) (n : ℕ) → length p ≤ n → n ≤ SAMPLE_SIZE → drop n (p ++ zeros (SAMPLE_SIZE - length p)) ≡ zeros (SAMPLE_SIZE - n)
rest_zeros p n low le =
    let parted : n ≡ length p + (n - length p) = omega arith in
    let left : SAMPLE_SIZE - length p - (n - length p) ≡ SAMPLE_SIZE - n = omega arith in
    ap (λ k. drop k (p ++ zeros (SAMPLE_SIZE - length p))) parted ∙ drop-append-add p (zeros (SAMPLE_SIZE - length p)) (n - length p)
    ∙ drop-replicate (n - length p) (SAMPLE_SIZE - length p) 0 ∙ ap zeros left

module _ (row : FurtherRow) (a : Listed.Alternative) (before : List ℕ) (n : ℕ) (out new : List ℕ) (first : Some a ≡ slice_get (alternatives_of row) 0)
    (is : before ≡ prolog row.parent) (room : IsTrue (has_room (row_listed row)))
    (many : n ≡ max (length (parent_sample row.parent)) (least_of (model before (alternative_listed a))))
    (fronted : out ≡ parent_sample row.parent ++ zeros (SAMPLE_SIZE - length (parent_sample row.parent))) where
  abbrev p : List ℕ
  p = parent_sample row.parent

  abbrev over : fixed.Alternative
  over = model before (alternative_listed a)

  pub roomy : (n ≤ SAMPLE_SIZE) × IsTrue (list_all (is_inside n) (parts_of over))
  roomy =
      let most = max (length p) (least_of over) in
      let h = room_for row a before first is room in
      subst (λ k. (k ≤ SAMPLE_SIZE) × IsTrue (list_all (is_inside k) (parts_of over))) (sym many)
      (leb-true _ _ (both_left (nat_le most SAMPLE_SIZE) _ h), both_right (nat_le most SAMPLE_SIZE) _ h)

  module _ (done : new ≡ with_parts (parts_of over) (take n out)) where
    sample_done : further_sample (row_listed row) ≡ Some new
    sample_done =
        ap (option_map (joined_sample p)) (first_model row a before first is)
        ∙ ap Some (ap (with_parts (parts_of over)) (sym (ap (take n) fronted ∙ front_zeros p n (least_of over) many roomy.0)) ∙ sym done)

    long : length new ≡ n
    long =
        let here : length (take n out) ≡ n = length-take-le n out (omega (arith, roomy.0, ap length fronted, length-append p (zeros (SAMPLE_SIZE - length p)), length-replicate {A = ℕ} (SAMPLE_SIZE - length p) 0)) in
        ap length done ∙ length-parts n (parts_of over) (take n out) here roomy.1

    pub counted_further : Some n ≡ option_map length (further_sample (row_listed row))
    counted_further = ap Some (sym long) ∙ sym (ap (option_map length) sample_done)

    pub written_further : (old : List ℕ) → new ++ drop n out ≡ written (further_sample (row_listed row)) old
    written_further old =
        ap (λ l. new ++ l) (ap (drop n) fronted ∙ rest_zeros p n (omega arith) roomy.0 ∙ ap (λ k. zeros (SAMPLE_SIZE - k)) (sym long))
        ∙ ap (λ o. written o old) (sym sample_done)

-- what holds of a sample holds of what is written
pub holds_written : (P : List ℕ → Type 0) (o : Option (List ℕ)) (result : Option ℕ) (old new : List ℕ) → MatchOption o ⊥ P
    → result ≡ option_map length o → new ≡ written o old → IfSome result (λ n. P (take n new))
holds_written P None result old new h counted done = absurd h
holds_written P (Some s) result old new h counted done =
    subst (λ r. IfSome r (λ n. P (take n new))) (sym counted)
    (subst P (sym (ap (take (length s)) done ∙ take_at s (zeros (SAMPLE_SIZE - length s)) (length s) refl)) h)

-- the sample of a row that is read is answered by the row
pub row_answered : AllReach → (i : ℕ) (r : Further) → Some r ≡ slice_get further i → Reaches i r
row_answered all i r e = subst (Reaches i) (get_or_from_slice_get further i r r (sym e)) (all i (slice_get_within further i r (sym e)) r)

-- ---- which rows have none

module _ (i : ℕ) where
  pub none_below : (result : Option ℕ) → i < ROW_COUNT → is_some result ≡ false ↔ ((i ≡ DLL) ⊎ (i ≡ EPUB_ARCHIVE) ⊎ (ROW_COUNT ≤ i)) → is_some result ≡ false ↔ HasNoSample i
  none_below result lt none = (
    λ e. elim (none.0 e) [ inl d ↦ inl d | inr (inl p) ↦ inr (inl p) | inr (inr le) ↦ absurd (omega arith) ],
    λ h. elim h [ inl d ↦ none.1 (inl d) | inr (inl p) ↦ none.1 (inr (inl p)) | inr (inr le) ↦ absurd (omega arith) ],
  )

  pub none_above : (result : Option ℕ) → ROW_COUNT ≤ i → is_some result ≡ false ↔ (length further ≤ i - ROW_COUNT) → is_some result ≡ false ↔ HasNoSample i
  none_above result le none = (
    λ e. let past = none.0 e in inr (inr (omega arith)),
    λ h. elim h [
      | inl d ↦ absurd (omega arith)
      | inr (inl p) ↦ absurd (omega arith)
      | inr (inr past) ↦ none.1 (omega arith)
    ],
  )
