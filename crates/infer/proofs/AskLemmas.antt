-- A walk over the candidates of a buffer: which numbers they are, where it ends, and which it asks.
use Rattle.infer.proofs.Common.{MatchOption, HoldsAt, Bor, subst, ◌≡◌, ◌<◌, ◌≤◌, ◌+◌, filter_more, ℕ, zero, suc, Bool, true, false, ◌&&◌, List, [], ◌∷◌, ◌++◌, length, get_or, take, sym, ◌∙◌, ap, arith, refl, leb, Option, Some, None, inl, inr, IsTrue, ◌↔◌, All, AllPairs, AllWithin, filter, slice_get, option_map_or, nat_tests, length-take-le, count_by-le-length, length-filter, get_or-range_with_len, length-range_with_len, range_with_len, BuiltIn, allows_first, candidates, candidates_of, numbers_from, Row, table, MOST_CANDIDATES, ROW_COUNT, IsFirstAmong, asked_rows, count_asked, is_asked, is_not_above, RowHas, IsAsked, HasGiven, bytes_eq, bytes_eq-Decides, Takes, Accepts, Triple, append-nil, cond}
use Rattle.std.proofs.lemmas.Bool.{false_from_ne_true}
use Rattle.std.proofs.lemmas.List.Elements.{All-filter}
use Rattle.std.proofs.lemmas.List.Kept.{AllPairs-filter}
use Rattle.std.specs.Option.{option_copied}
use Rattle.infer.proofs.TableLemmas.{length-table}

-- ---- the rows that pass a test are those numbers of all rows that pass it

-- row i is there and passes
abbrev pub row_passes : (Row BuiltIn → Bool) → ℕ → Bool
row_passes test i = option_map_or test (slice_get table i) false

-- the numbers of all rows
abbrev pub numbers : List ℕ
numbers = range_with_len 0 (length table)

pub count_numbers : length numbers ≡ length table
count_numbers = length-range_with_len 0 (length table)

pub read_number : (i d : ℕ) → i < length table → get_or numbers i d ≡ i
read_number i d lt = rw (get_or-range_with_len 0 (length table) i d lt) (omega arith)

numbered_from : (test : Row BuiltIn → Bool) (p : ℕ → Bool) (rows : List (Row BuiltIn)) (i : ℕ)
    → ((k : ℕ) → p (i + k) ≡ option_map_or test (slice_get rows k) false) → numbers_from test i rows ≡ filter p (range_with_len i (length rows))
numbered_from test p [] i same = refl
numbered_from test p (r ∷ rows) i same =
    let here : p i ≡ test r = ap p (omega arith) ∙ same 0 in
    let rest = numbered_from test p rows (suc i) (λ k. ap p (omega arith) ∙ same (suc k)) in
    let next : suc i ≡ i + 1 = omega arith in
    grind (arith)

pub numbered : (test : Row BuiltIn → Bool) → numbers_from test 0 table ≡ filter (row_passes test) numbers
numbered test = numbered_from test (row_passes test) table 0 (λ k. ap (row_passes test) (omega arith))

filter_twice : (p q : ℕ → Bool) (ns : List ℕ) → filter p (filter q ns) ≡ filter (λ i. q i && p i) ns
filter_twice p q [] = refl
filter_twice p q (n ∷ ns) = let rest = filter_twice p q ns in grind (arith)

-- ---- where it ends

module _ (P : ℕ → Type 0) where
  pub none_among : (cs : List ℕ) → AllWithin (λ i. ¬ P i) cs 0 (length cs) → IsFirstAmong P cs None
  unfolding IsFirstAmong
  none_among [] h = refl
  none_among (c ∷ cs) h =
      inr (h 0 0 (omega arith) (omega arith), none_among cs (λ k d a b. h (suc k) d (omega arith) (omega arith)))

  pub found_among : (cs : List ℕ) (k d : ℕ) → k < length cs → P (get_or cs k d) → AllWithin (λ i. ¬ P i) cs 0 k → IsFirstAmong P cs (Some (get_or cs k d))
  unfolding IsFirstAmong
  found_among [] k d l h none = absurd (omega arith)
  found_among (c ∷ cs) zero d l h none = inl (h, refl)
  found_among (c ∷ cs) (suc k) d l h none =
      inr (none 0 0 (omega arith) (omega arith), found_among cs k d (omega arith) h (λ j e a b. none (suc j) e (omega arith) (omega arith)))

  -- what `find` found of the numbers
  pub among_of_find : (cs : List ℕ) (found : Option (Bor ℕ))
      → MatchOption found (AllWithin (λ i. ¬ P i) cs 0 (length cs))
      (λ x. P x.now × (k : ℕ) × (k < length cs) × HoldsAt (λ i. i ≡ x.now) cs k × AllWithin (λ i. ¬ P i) cs 0 k)
      → IsFirstAmong P cs (option_copied found)
  among_of_find cs None none = none_among cs none
  among_of_find cs (Some x) (holds, k, lt, at, before) =
      subst (λ i. IsFirstAmong P cs (Some i)) (at 0) (found_among cs k 0 lt (subst P (sym (at 0)) holds) before)

  -- if only numbers that pass a test have the property, they alone are looked at
  pub first_kept : (p : ℕ → Bool) → ((i : ℕ) → P i → IsTrue (p i)) → (cs : List ℕ) (o : Option ℕ) → IsFirstAmong P (filter p cs) o ↔ IsFirstAmong P cs o
  unfolding IsFirstAmong
  first_kept p only [] o = ((λ h. h), (λ h. h))
  first_kept p only (c ∷ cs) o = let rest = first_kept p only cs o in (λ h. grind (arith), λ h. grind (arith))

-- ---- which it asks

-- a test that the first n numbers alone pass keeps these
kept : (p : ℕ → Bool) (d : ℕ) (cs : List ℕ) (n : ℕ) → ((k : ℕ) → k < length cs → k < n → p (get_or cs k d) ≡ true)
    → ((k : ℕ) → k < length cs → n ≤ k → p (get_or cs k d) ≡ false) → filter p cs ≡ take n cs
kept p d [] zero pass fail = refl
kept p d [] (suc n) pass fail = refl
kept p d (c ∷ cs) zero pass fail =
    rw (fail 0 (omega arith) (omega arith)) (kept p d cs zero (λ k l a. absurd (omega arith)) (λ k l a. fail (suc k) (omega arith) (omega arith)))
kept p d (c ∷ cs) (suc n) pass fail =
    rw (pass 0 (omega arith) (omega arith)) (ap (λ xs. c ∷ xs)
    (kept p d cs n (λ k l a. pass (suc k) (omega arith) (omega arith)) (λ k l a. fail (suc k) (omega arith) (omega arith))))

-- the test of which the candidates are the places
abbrev pub may_take : List ℕ → Row BuiltIn → Bool
may_take [] r = false
may_take (f ∷ b) r = allows_first r.signature f

pub candidates_numbered : (b : List ℕ) → numbers_from (may_take b) 0 table ≡ candidates_of b
unfolding candidates table
candidates_numbered [] = refl
candidates_numbered (f ∷ b) = refl

no_more : (test : ℕ → Bool) (xs : List ℕ) (n : ℕ) → length xs ≤ n → length (filter test xs) ≤ n
no_more test xs n few = let count = length-filter test xs in let most = count_by-le-length test xs in omega (arith, count, most)

pub few_asked : (w : Option (Bor (List ℕ))) (b cs : List ℕ) (o : Option ℕ) → cs ≡ candidates_of b → length cs ≤ MOST_CANDIDATES
    → count_asked w b o ≤ MOST_CANDIDATES
few_asked w b cs o same few = no_more (λ i. is_not_above o i && is_asked w i) (candidates_of b) MOST_CANDIDATES (rw (← same) few)

-- ---- a walk over the rows that pass a test

numbers_rise : All (λ i. i < ROW_COUNT) numbers × AllPairs (λ i j. i < j) numbers
numbers_rise = grind (arith, read_number, count_numbers, length-table)

module _ (test : Row BuiltIn → Bool) (rs : List ℕ) (same : rs ≡ numbers_from test 0 table) where
  rise : All (λ i. i < ROW_COUNT) rs × AllPairs (λ i j. i < j) rs
  rise = rw (same, numbered test)
      (All-filter (row_passes test) (λ i. i < ROW_COUNT) numbers numbers_rise.0, AllPairs-filter (λ i j. i < j) (row_passes test) numbers numbers_rise.1)

  pub room_left : (p : ℕ → Bool) (k : ℕ) → k < length rs → length (filter p (take k rs)) < ROW_COUNT
  room_left p k l = grind (arith, no_more, count_numbers, length-take-le, numbered, length-table)

  pub asked_up_to : (p : ℕ → Bool) (k d : ℕ) → k < length rs → filter p (take (k + 1) rs) ≡ filter (λ j. leb j (get_or rs k d) && p j) rs
  asked_up_to p k d l =
      let front = kept (λ j. leb j (get_or rs k d)) d rs (k + 1)
      (λ j m a. grind (arith, nat_tests, rise.1 j k d)) (λ j m a. grind (arith, nat_tests, rise.1 k j d)) in
      ap (filter p) (sym front) ∙ filter_twice p (λ j. leb j (get_or rs k d)) rs

-- ---- a walk that asks the candidates with an extension, or all of them

-- whether the row is one that the walk asks for
pub asked_row : (w : Option (Bor (List ℕ))) (i : ℕ) → RowHas (IsAsked (HasGiven w)) i ↔ IsTrue (is_asked w i)
asked_row None i = asked_any (slice_get table i)
  where
    asked_any : (o : Option (Row BuiltIn)) → MatchOption o ⊥ (λ r. Unit {0}) ↔ IsTrue (option_map_or (λ r. true) o false)
    asked_any None = (λ h. absurd h, λ h. absurd (cc))
    asked_any (Some r) = (λ h. refl, λ h. tt)
asked_row (Some extension) i = asked_text (slice_get table i)
  where
    asked_text : (o : Option (Row BuiltIn)) → MatchOption o ⊥ (λ r. r.shows.extension ≡ extension.now)
        ↔ IsTrue (option_map_or (λ r. bytes_eq r.shows.extension extension.now) o false)
    asked_text None = (λ h. absurd h, λ h. absurd (cc))
    asked_text (Some r) = let (from, to) = bytes_eq-Decides r.shows.extension extension.now in (to, from)

-- a row takes the buffer exactly if it is asked for and accepts it
pub takes_both : (asked : Triple → Type 0) (b : List ℕ) (i : ℕ) → RowHas (Takes asked b) i ↔ (RowHas (IsAsked asked) i × RowHas (Accepts b) i)
takes_both asked b i = both (slice_get table i)
  where
    both : (o : Option (Row BuiltIn)) → MatchOption o ⊥ (Takes asked b) ↔ (MatchOption o ⊥ (IsAsked asked) × MatchOption o ⊥ (Accepts b))
    both None = (λ h. absurd h, λ h. absurd h.0)
    both (Some r) = (λ h. h, λ h. h)

module _ (w : Option (Bor (List ℕ))) (b rs : List ℕ) (same : rs ≡ candidates_of b) where
  pub placed : rs ≡ numbers_from (may_take b) 0 table
  placed = same ∙ sym (candidates_numbered b)

  pub candidate_row : (k d : ℕ) → k < length rs → get_or rs k d < ROW_COUNT
  candidate_row = (rise (may_take b) rs placed).0

  one_more : (k d : ℕ) → k < length rs → (t : Bool) → is_asked w (get_or rs k d) ≡ t
      → filter (is_asked w) (take (k + 1) rs) ≡ filter (is_asked w) (take k rs) ++ cond t (get_or rs k d ∷ []) []
  one_more k d l t e =
      filter_more (is_asked w) rs k d l ∙ ap (λ t. filter (is_asked w) (take k rs) ++ cond t (get_or rs k d ∷ []) []) e

  pub candidate_asked : (k d : ℕ) → k < length rs → RowHas (IsAsked (HasGiven w)) (get_or rs k d)
      → filter (is_asked w) (take k rs) ++ get_or rs k d ∷ [] ≡ filter (is_asked w) (take (k + 1) rs)
  candidate_asked k d l asked = sym (one_more k d l true ((asked_row w (get_or rs k d)).0 asked))

  pub candidate_passed : (k d : ℕ) → k < length rs → ¬ RowHas (IsAsked (HasGiven w)) (get_or rs k d)
      → filter (is_asked w) (take k rs) ≡ filter (is_asked w) (take (k + 1) rs)
  candidate_passed k d l not =
      sym (one_more k d l false (false_from_ne_true (is_asked w (get_or rs k d)) (λ t. not ((asked_row w (get_or rs k d)).1 t))) ∙ append-nil _)

  pub candidates_asked : (k d : ℕ) → k < length rs → filter (is_asked w) (take (k + 1) rs) ≡ asked_rows w b (Some (get_or rs k d))
  candidates_asked k d l =
      asked_up_to (may_take b) rs placed (is_asked w) k d l ∙ ap (filter (λ j. leb j (get_or rs k d) && is_asked w j)) same
