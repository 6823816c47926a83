-- What is listed of a row.
use Rattle.infer.proofs.Common.{list_all, zero, suc, ◌≡◌, ◌+◌, ◌-◌, ◌<◌, ◌≤◌, ◌∙◌, ℕ, List, Option, None, Some, IfSome, IsTrue, ap, arith, refl, length, sym, subst, slice_get, get_or, signature_of, BuiltIn, fixed, length-range_with_len, length-map, [], Row, IsBuffer, MatchOption, Accepts, MayBecomeRow, IsAccepted, RowHas, table, ◌⊎◌, ◌↔◌, ◌++◌, inl, inr, take, drop, Lasts, length-take-le, get_or-take, take-append-drop, Bool, false, false≢true, AllWithin, AllWithin-more, AllWithin-upto, IsFirstAmong, get_or_default, candidates, candidates_of, ◌∷◌}
use Rattle.std.proofs.Math.ListN.{get_or-map}
use Rattle.std.proofs.lemmas.List.FromFn.{get_or-map-range_with_len}
use Rattle.std.proofs.lemmas.Grind.{same_number_lists}
use Rattle.std.proofs.lemmas.List.Elements.{All-drop, All-from_get_or}
use Rattle.std.proofs.lemmas.List.Prefix.{front_from_reads}
use Rattle.std.proofs.lemmas.Option.{get_or_from_slice_get, slice_get_within}
use Rattle.infer.proofs.AskLemmas.{none_among}
use Rattle.infer.proofs.GroupLemmas.{at_most}
use Rattle.infer.proofs.TableLemmas.{row_accepts}
use Rattle.infer.specs.Groups.{groups}
use Rattle.infer.specs.Evidence.{AreListed, IsRowDecided, fixed_listed, fixed_of, most_of, most_of_all}
use Rattle.infer.specs.declared.deciding_bytes.TheConstants.{MOST_OF_CANDIDATES}
use Rattle.std.specs.Prelude.{codes, nat_eq, nat_le, true}
use Rattle.std.specs.Option.{option_eq}
use Rattle.std.proofs.lemmas.Bool.{eqb-true}
use Rattle.infer.specs.declared.table.rows.TheConstants.{PDF}
use Rattle.infer_deep.specs.Windows.{StandsBy}
use Rattle.infer_evidence.specs.declared.search.TheConstants.{MOST_OF_A_SEARCH}
use Rattle.infer_sig.specs.Signature as signature
use Rattle.infer_sig.specs.Signature.{accepts}
use Rattle.infer_evidence.specs.Listed.{signature_listed}
use Rattle.infer.specs.declared.table.row_data.RowData.{RowData}

module _ (first n : ℕ) (rows : List (Option RowData)) (h : AreListed first n rows) (i : ℕ) (s : Option RowData) (found : slice_get rows i ≡ Some s) where
  inside : i < n
  inside = grind (arith, slice_get_within rows i s found, h, length-map, length-range_with_len)

  here : get_or rows i s ≡ s
  here = get_or_from_slice_get rows i s s found

  pub listed_at : fixed_of (signature_of (first + i)) ≡ fixed_listed s
  listed_at =
      sym (get_or-map-range_with_len (λ j. fixed_of (signature_of j)) first n i (first + i) (fixed_listed s) inside refl)
      ∙ ap (λ xs. get_or xs i (fixed_listed s)) (sym h)
      ∙ get_or-map fixed_listed rows i s
      ∙ ap fixed_listed here

-- a signature of which the bytes at fixed places are these is that of these
pub fixed_by : (s : BuiltIn) (alternatives : List signature.Alternative) → fixed_of s ≡ Some alternatives → s ≡ fixed alternatives
fixed_by (fixed own) alternatives e = grind (arith)
fixed_by s alternatives e = absurd (cc)

-- what is listed at a row's place is its signature
pub row_listed_at : (row first n : ℕ) (rows : List (Option RowData)) → first ≤ row → AreListed first n rows
    → (s : Option RowData) → slice_get rows (row - first) ≡ Some s
    → MatchOption s (fixed_of (signature_of row) ≡ None) (λ k. signature_of row ≡ fixed (signature_listed k.alternatives.now))
row_listed_at row first n rows le h s found = told s (subst (λ i. fixed_of (signature_of i) ≡ fixed_listed s) (omega arith) (listed_at first n rows h (row - first) s found))
  where
    told : (s : Option RowData) → fixed_of (signature_of row) ≡ fixed_listed s
        → MatchOption s (fixed_of (signature_of row) ≡ None) (λ k. signature_of row ≡ fixed (signature_listed k.alternatives.now))
    told None e = e
    told (Some a) e = fixed_by (signature_of row) (signature_listed a.alternatives.now) e

-- a front tells of a row if it is accepted or nothing that begins so is
module _ (lasts : (s : BuiltIn) → Lasts (IsAccepted s)) where
  row_told : (o : Option (Row BuiltIn)) (f v w : List ℕ) → IsBuffer v → IsBuffer w
      → MatchOption o ⊥ (Accepts f) ⊎ ¬ MatchOption o ⊥ (MayBecomeRow f)
      → MatchOption o ⊥ (Accepts (f ++ w)) ↔ MatchOption o ⊥ (Accepts (f ++ v))
  row_told None f v w bytes more told = (λ h. absurd h, λ h. absurd h)
  row_told (Some r) f v w bytes more told =
      elim told as (λ t. Accepts (f ++ w) r ↔ Accepts (f ++ v) r) [
        | inl here ↦ (λ h. lasts r.signature f v here, λ h. lasts r.signature f w here)
        | inr never ↦ (λ h. absurd (never (w, more, h)), λ h. absurd (never (v, bytes, h)))
      ]

-- what holds of two buffers that are a front with more bytes after it holds of two that have it in common
pub buffers_with : (P : List ℕ → List ℕ → Type 0) (b c : List ℕ) (n : ℕ) → IsBuffer b → IsBuffer c → n ≤ length b
    → ((k : ℕ) → k < n → (k < length c) × (get_or c k 0 ≡ get_or b k 0))
    → ((v w : List ℕ) → IsBuffer v → IsBuffer w → P (take n b ++ v) (take n b ++ w)) → P b c
buffers_with P b c n bytes others le same holds =
    let f = take n b in
    let long : length f ≡ n = length-take-le n b le in
    let begins : c ≡ f ++ drop (length f) c =
    front_from_reads 0 c f (grind (arith, same (n - 1))) (λ k lt. grind (arith, same k, get_or-take)) in
    subst (P b) (sym begins)
    (subst (λ y. P y (f ++ drop (length f) c)) (take-append-drop n b)
    (holds (drop n b) (drop (length f) c) (All-drop (λ x. x < 256) n b bytes) (All-drop (λ x. x < 256) (length f) c others)))

pub front_proves : (lasts : (s : BuiltIn) → Lasts (IsAccepted s)) (b c : List ℕ) (n i : ℕ) → IsBuffer b → IsBuffer c → n ≤ length b → IsRowDecided (take n b) i
    → ((k : ℕ) → k < n → (k < length c) × (get_or c k 0 ≡ get_or b k 0)) → RowHas (Accepts c) i ↔ RowHas (Accepts b) i
front_proves lasts b c n i bytes others le told same =
    buffers_with (λ y z. RowHas (Accepts z) i ↔ RowHas (Accepts y) i) b c n bytes others le same
    (λ v w of more. row_told lasts (slice_get table i) (take n b) v w of more told)

-- what has all bytes of a buffer, and its length, is the buffer
pub same_by_reads : (b c : List ℕ) → length c ≡ length b → ((k : ℕ) → k < length b → (k < length c) × (get_or c k 0 ≡ get_or b k 0)) → c ≡ b
same_by_reads b c long same = same_number_lists c b long (λ k lt. (same k (omega (arith, long))).1)

pub whole_proves : (b c : List ℕ) (i : ℕ) → length c ≡ length b → ((k : ℕ) → k < length b → (k < length c) × (get_or c k 0 ≡ get_or b k 0))
    → RowHas (Accepts c) i ↔ RowHas (Accepts b) i
whole_proves b c i long same = subst (λ x. RowHas (Accepts x) i ↔ RowHas (Accepts b) i) (sym (same_by_reads b c long same)) (λ h. h, λ h. h)

-- the bytes of a buffer are bytes
pub buffer_by_reads : (b : List ℕ) → ((i : ℕ) → get_or b i 0 < 256) → IsBuffer b
buffer_by_reads b h = All-from_get_or (λ x. x < 256) b 0 (λ i lt. h i)

-- the row with this fixed signature accepts what the signature does
pub row_fixed : (i : ℕ) (alternatives : List signature.Alternative) → signature_of i ≡ fixed alternatives → (b : List ℕ)
    → IsTrue (accepts alternatives b) ↔ RowHas (Accepts b) i
row_fixed i alternatives e b = subst (λ s. IsAccepted s b ↔ RowHas (Accepts b) i) e (row_accepts b i)

-- where each number has it not, none is first
pub none_of_all : (P : ℕ → Type 0) (xs : List ℕ) (i : ℕ) → length xs ≤ i → AllWithin (λ x. ¬ P x) xs 0 i → IsFirstAmong P xs None
none_of_all P xs i le before = none_among P xs (AllWithin-upto (λ x. ¬ P x) xs 0 i (length xs) le before)

-- a test that fails refutes what it decides
pub refuted_by : {P : Type 0} {r : Bool} → r ≡ false → IsTrue r ↔ P → ¬ P
refuted_by e proves h = false≢true (sym e ∙ proves.1 h)

-- what holds just where another thing does fails where that fails
pub refuted_too : {P Q : Type 0} → P ↔ Q → ¬ Q → ¬ P
refuted_too same none h = none (same.0 h)

-- buffers with the same first byte have the same candidates
pub same_candidates : (b c : List ℕ) → 0 < length b → 0 < length c → get_or c 0 0 ≡ get_or b 0 0 → candidates_of c ≡ candidates_of b
same_candidates [] c some more e = absurd (omega (arith, some))
same_candidates (x ∷ xs) [] some more e = absurd (omega (arith, more))
same_candidates (x ∷ xs) (y ∷ ys) some more e = ap candidates e

-- the row of PDF asks for its text in the first 1024 bytes
pub pdf_most : most_of (signature_of PDF) ≡ MOST_OF_A_SEARCH
unfolding signature_of table
pdf_most = refl

pub pdf_searches : (b : List ℕ) → RowHas (Accepts b) PDF ↔ StandsBy (codes "%PDF") 1024 b
unfolding signature_of table
pdf_searches b = let told = row_accepts b PDF in (told.1, told.0)

-- for one row more they ask for as many more
pub most_more : (rows : List ℕ) (i : ℕ) → i < length rows → most_of_all (take (i + 1) rows) ≡ most_of_all (take i rows) + most_of (signature_of (get_or rows i 0))
most_more [] i lt = absurd (omega (arith, lt))
most_more (x ∷ rows) zero lt = omega arith
most_more (x ∷ rows) (suc i) lt =
    let rest = most_more rows i (omega (arith, lt)) in
    let next : suc (i + 1) ≡ suc i + 1 = omega arith in
    subst (λ n. most_of_all (take n (x ∷ rows)) ≡ most_of_all (take (suc i) (x ∷ rows)) + most_of (signature_of (get_or rows i 0))) next (omega (arith, rest))

pub most_upto : (rows : List ℕ) (i : ℕ) → most_of_all (take i rows) ≤ most_of_all rows
most_upto [] zero = omega arith
most_upto [] (suc i) = omega arith
most_upto (x ∷ rows) zero = omega arith
most_upto (x ∷ rows) (suc i) = let rest = most_upto rows i in omega (arith, rest)

-- the candidates of a first byte ask for few
each_few : IsTrue (list_all (λ rows. nat_le (most_of_all rows) MOST_OF_CANDIDATES) groups)
unfolding signature_of table
each_few = refl

pub few_of_first : (f : ℕ) → f < 256 → most_of_all (candidates f) ≤ MOST_OF_CANDIDATES
few_of_first = at_most most_of_all MOST_OF_CANDIDATES each_few

-- what follows for each number follows for the one that there may be
pub if_some : {P Q : ℕ → Type 0} → (o : Option ℕ) → ((i : ℕ) → P i → Q i) → IfSome o P → IfSome o Q
if_some None f h = h
if_some (Some i) f h = f i h

-- an option that is compared with a number, and found equal, is that number
pub same_number : (o : Option ℕ) (n : ℕ) → option_eq nat_eq o (Some n) ≡ true → o ≡ Some n
same_number None n e = absurd (false≢true e)
same_number (Some m) n e = ap Some (eqb-true m n e)
