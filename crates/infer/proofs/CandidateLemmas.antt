-- The first of the candidates that has a property is the first row of the table that has it.
use Rattle.infer.proofs.Common.{◌≡◌, ◌<◌, ◌≤◌, ◌+◌, ℕ, zero, suc, Bool, true, false, List, [], ◌∷◌, length, subst, arith, IsTrue, refl, Option, Some, None, MatchBool, MatchOption, inl, inr, is_some, ◌↔◌, slice_get, AllWithin, HoldsAt, AllWithin-more, AllWithin-none, AllWithin-upto, none_from_all_within, option_map_or, range_with_len, BuiltIn, IsFirstOf, NoneHas, SomeHas, Leads, candidates_of, numbers_from, Row, Accepts, table, IsFirstAmong, RowHas, Takes, WalksFindFirst, HasGiven, Triple}
use Rattle.infer.proofs.AskLemmas.{candidates_numbered, count_numbers, first_kept, found_among, may_take, none_among, numbered, numbers, read_number, row_passes}
use Rattle.infer.proofs.ListLemmas.{HoldsAt-read}
use Rattle.infer.proofs.OrderLemmas.{some_row}

-- what is read at a place has the property just if the place is inside, and the property holds there
pub read_has : {A : Type 0} (P : A → Type 0) (xs : List A) (i : ℕ) → MatchOption (slice_get xs i) ⊥ P ↔ ((i < length xs) × HoldsAt P xs i)
read_has P [] i = (λ h. absurd h, λ h. absurd (omega arith))
read_has P (x ∷ xs) zero = (λ h. (omega arith, λ d. h), λ h. h.1 x)
read_has P (x ∷ xs) (suc i) =
    let rest = read_has P xs i in (λ h. let at = rest.0 h in (omega arith, at.1), λ h. rest.1 (omega arith, h.1))

-- if what has the property passes, so does a row that has it
pub passes_row : {A : Type 0} (P : A → Type 0) (test : A → Bool) → ((x : A) → P x → IsTrue (test x)) → (o : Option A) → MatchOption o ⊥ P
    → IsTrue (option_map_or test o false)
passes_row P test only o h = grind (arith)

module _ (P : Row BuiltIn → Type 0) where
  first_from : (n i : ℕ) (o : Option ℕ) → i + n ≡ length table → AllWithin (λ r. ¬ P r) table 0 i
      → IsFirstAmong (RowHas P) (range_with_len i n) o → IsFirstOf P table o
  unfolding IsFirstAmong
  first_from zero i o e none h = rw h (AllWithin-upto (λ r. ¬ P r) table 0 i (length table) (omega arith) none)
  first_from (suc n) i o e none (inl (has, same)) =
      let at = (read_has P table i).0 has in rw same (record { within = at.0; here = at.1; before = none })
  first_from (suc n) i o e none (inr (not, rest)) =
      let lt : i < length table = omega arith in
      first_from n (i + 1) o (omega arith)
      (AllWithin-more (λ r. ¬ P r) table 0 i none (λ d p. not ((read_has P table i).1 (lt, HoldsAt-read P table i d lt p)))) rest

  none_numbered : (n : ℕ) → n ≤ length table → AllWithin (λ r. ¬ P r) table 0 n → AllWithin (λ i. ¬ RowHas P i) numbers 0 n
  none_numbered n le none k d low lt has =
      let at = (read_has P table k).0 (rw (read_number k d (omega arith)) at has) in none k some_row low lt (at.1 some_row)

  among_all : (o : Option ℕ) → IsFirstOf P table o → IsFirstAmong (RowHas P) numbers o
  among_all None none = none_among (RowHas P) numbers (rw count_numbers (none_numbered (length table) (omega arith) none))
  among_all (Some i) first =
      let at = read_number i 0 first.within in
      subst (λ k. IsFirstAmong (RowHas P) numbers (Some k)) at (found_among (RowHas P) numbers i 0 (omega (arith, first.within, count_numbers))
      (rw at ((read_has P table i).1 (first.within, first.here))) (none_numbered i (omega (arith, first.within)) first.before))

  -- if only rows that pass a test have the property, they alone are looked at
  pub first_listed : (test : Row BuiltIn → Bool) → ((i : ℕ) → RowHas P i → IsTrue (row_passes test i)) → (o : Option ℕ)
      → IsFirstAmong (RowHas P) (numbers_from test 0 table) o ↔ IsFirstOf P table o
  first_listed test only o = grind (arith, first_kept, numbered, first_from, AllWithin-none, among_all)

pub some_of_first : {A : Type 0} (P : A → Type 0) (xs : List A) (o : Option ℕ) (r : Bool) → r ≡ is_some o → IsFirstOf P xs o → IsTrue r ↔ SomeHas P xs
some_of_first P xs None r e none = (λ t. absurd (cc), λ some. absurd (none_from_all_within P xs none some))
some_of_first P xs (Some i) r e first = (λ t. (i, first.within, first.here), λ some. e)

-- of every row, the first that takes the buffer is the first that accepts it
pub first_of_every : (b : List ℕ) (rows : List (Row BuiltIn)) (o : Option ℕ) → IsFirstOf (Takes (HasGiven None) b) rows o → IsFirstOf (Accepts b) rows o
first_of_every b rows o first = grind arith

module _ (leads : (s : BuiltIn) → Leads s) (blank : NoneHas (Accepts []) table) where
  -- a row that accepts a buffer passes the test of the candidates
  pub accepted_may_take : (b : List ℕ) (i : ℕ) → RowHas (Accepts b) i → IsTrue (row_passes (may_take b) i)
  accepted_may_take [] i h = absurd (let at = (read_has (Accepts []) table i).0 h in none_from_all_within (Accepts []) table blank (i, at.0, at.1))
  accepted_may_take (f ∷ b) i h = passes_row (Accepts (f ∷ b)) (may_take (f ∷ b)) (λ r a. leads r.signature f b a) (slice_get table i) h

  walk_first : (asked : Triple → Type 0) (b : List ℕ) (o : Option ℕ)
      → IsFirstAmong (RowHas (Takes asked b)) (candidates_of b) o ↔ IsFirstOf (Takes asked b) table o
  walk_first asked b o =
      rw (← candidates_numbered b) (first_listed (Takes asked b) (may_take b) (λ i h. grind (arith, accepted_may_take b i)) o)

  -- the first of the candidates of a buffer that takes it is the first row of the table that does
  pub first_of_buffer : (asked : Triple → Type 0) (b cs : List ℕ) (o : Option ℕ) → cs ≡ candidates_of b
      → IsFirstAmong (RowHas (Takes asked b)) cs o → IsFirstOf (Takes asked b) table o
  first_of_buffer asked b cs o same h = (walk_first asked b o).0 (rw same at h)

  -- the first of the candidates of a buffer that accepts it is the first row of the table that does
  pub first_accepting : (b cs : List ℕ) (o : Option ℕ) → cs ≡ candidates_of b → IsFirstAmong (RowHas (Accepts b)) cs o → IsFirstOf (Accepts b) table o
  first_accepting b cs o same h =
      let all : IsFirstAmong (RowHas (Accepts b)) (candidates_of b) o ↔ IsFirstOf (Accepts b) table o
      = rw (← candidates_numbered b) (first_listed (Accepts b) (may_take b) (λ i a. grind (arith, accepted_may_take b i)) o) in
      all.0 (rw same at h)

  pub walks_find_first : WalksFindFirst
  walks_find_first b o = (
    λ h. first_of_every b table o (first_of_buffer (HasGiven None) b (candidates_of b) o refl h),
    λ first. (walk_first (HasGiven None) b o).1 (grind arith),
  )

  -- some row takes the buffer exactly if one of its candidates does
  pub some_of_candidates : (asked : Triple → Type 0) (b cs : List ℕ) (r : Bool) → cs ≡ candidates_of b
      → MatchBool r (SomeHas (RowHas (Takes asked b)) cs) (NoneHas (RowHas (Takes asked b)) cs) → IsTrue r ↔ SomeHas (Takes asked b) table
  some_of_candidates asked b cs true same (k, lt, at) =
      let found = (read_has (Takes asked b) table _).0 (at 0) in (λ _. (_, found.0, found.1), λ _. refl)
  some_of_candidates asked b cs false same none =
      let nowhere = first_of_buffer asked b cs None same (none_among (RowHas (Takes asked b)) cs none) in
      (λ no. absurd (cc), λ some. absurd (none_from_all_within (Takes asked b) table nowhere some))
