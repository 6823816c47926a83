-- A row that was read is the one at its number in the table, and what words ask for.
use Rattle.infer_tool.proofs.Common.{MatchOption, None, ◌≡◌, ◌-◌, ◌<◌, ◌≤◌, ◌⊎◌, inl, inr, ℕ, Bool, true, false, List, [], Option, Some, take, length, map, get_or, sym, ap, ◌∙◌, subst, arith, OnFalse, HoldsAt, take_at, Appends, BuiltIn, Row, IsFirst, IsFirstOf, HasExtension, HoldsSample, sample_of, zeros, table, unless_failed, HasSample}
use Rattle.std.proofs.lemmas.List.{get_or-map}
use Rattle.infer.proofs.FirstLemmas.{IsFirstOf-same}
use Rattle.infer.specs.declared.samples.TheConstants.{SAMPLE_SIZE}
use Rattle.infer.specs.declared.table.rows.TheConstants.{DLL, EPUB_ARCHIVE, ROW_COUNT}

-- the word at 1 names what stands after the option
pub second_is : {A : Type 0} (name_of : A → List ℕ) (words : List A) (word : A) (name : List ℕ) → 1 < length words
    → word ≡ get_or words 1 word → name ≡ name_of word → name ≡ get_or (map name_of words) 1 []
second_is name_of words word name lt at named = named ∙ ap name_of at ∙ sym (get_or-map name_of words 1 word [] lt)

module _ (extension : List ℕ) where
  -- a row of which a sample was given has one, and a row of which none was given has none
  pub sampled : (i : ℕ) → IsFirst (HasExtension extension) table i → (¬ ((i ≡ DLL) ⊎ ((i ≡ EPUB_ARCHIVE) ⊎ (ROW_COUNT ≤ i)))) → HasSample extension i
  sampled i first some = (first, λ e. some (inl e), λ e. some (inr (inl e)))

  pub never_sampled : length table ≡ ROW_COUNT → (i j : ℕ) → HasSample extension i → IsFirst (HasExtension extension) table j
      → (j ≡ DLL) ⊎ ((j ≡ EPUB_ARCHIVE) ⊎ (ROW_COUNT ≤ j)) → ⊥
  never_sampled many i j has first none =
      grind (arith, many, none, IsFirstOf-same (HasExtension extension) table (Some i) (Some j) has.0 first, has.1, has.2, first.within)

  pub sample-written : (i j n : ℕ) (buf : List ℕ) (failed : Bool) (old new : Option (List ℕ)) → HasSample extension i
      → IsFirst (HasExtension extension) table j → HoldsAt (HoldsSample n buf) table j
      → OnFalse failed (Appends old new (take n buf))
      → HoldsAt (λ r. Appends (unless_failed failed old) new (sample_of r.signature)) table i
  sample-written i j n buf true old new has first holds app = λ d. tt
  sample-written i j n buf false old new has first holds app =
      let both = IsFirstOf-same (HasExtension extension) table (Some i) (Some j) has.0 first in
      let same : j ≡ i = cc in
      subst (λ k. HoldsAt (λ r. Appends old new (sample_of r.signature)) table k) same
      (λ d. let h = holds d in
      subst (Appends old new) (ap (take n) h.1 ∙ take_at (sample_of (get_or table j d).signature) (zeros (SAMPLE_SIZE - n)) n (sym h.0)) app)

-- what `find` found of the numbers of the rows
pub first_found : (P : Row BuiltIn → Type 0) (n : ℕ) → length table ≡ n → (found : Option ℕ)
    → MatchOption found ((k : ℕ) → 0 ≤ k → k < n → HoldsAt (λ r. ¬ P r) table k)
    (λ i. (0 ≤ i) × (i < n) × HoldsAt P table i × ((k : ℕ) → 0 ≤ k → k < i → HoldsAt (λ r. ¬ P r) table k))
    → IsFirstOf P table found
first_found P n many None none = λ k d low lt. none k low (omega (arith, lt, many)) d
first_found P n many (Some i) (low, lt, here, before) = record {
  within = omega (arith, lt, many);
  here = here;
  before = λ k d a b. before k a b d;
}
