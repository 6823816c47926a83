-- The table's length, that no row asks for more than its least length, and that it can be told what more bytes bring each.
use Rattle.infer_more.proofs.Common.{◌≡◌, IsTrue, length, refl, list_all, is_row_sound, is_row_closed, archives, code, further, headers, images, late, markup, media, packages, records, disks, elements, games, kinds, office, others, packed, papers, pictures, rasters, roots, sounds, stores, scripts, documents, secrets, openings, prefaces, bitmaps, shapes, chunks, tunes, squeezed, bundles, volumes, assorted, databases, science, measures, prints, compiled, keyrings, consoles, shallow, schemas, dialects, notations, unheaded, mended, remarks, captions, headlines, inner, deeper, farther, buried, letters, settings, scores, objects, texts, FURTHER_COUNT}
use Rattle.std.proofs.Common.{add-zero, drop, slice_get, sym, take}
use Rattle.std.proofs.lemmas.List.{drop-drop}
use Rattle.infer_more.proofs.Common.{◌+◌, ◌<◌, [], ◌∷◌, ℕ, Bool, List, true, false, zero, suc, arith, subst, get_or, if◌then◌else◌, option_map_or, Further}
use Rattle.std.proofs.lemmas.List.Sums.{list_all-from_AllPass}
use Rattle.std.proofs.lemmas.Option.{slice_get-get_or}

pub length-further : length further ≡ FURTHER_COUNT
unfolding further archives code headers images late markup media packages records disks elements games kinds office others packed papers pictures rasters roots sounds stores scripts documents secrets openings prefaces bitmaps shapes chunks tunes squeezed bundles volumes assorted databases science measures prints compiled keyrings consoles shallow schemas dialects notations unheaded mended remarks captions headlines inner deeper farther buried letters settings scores objects texts
length-further = refl

-- the numbers of the elements that fail a test, where the first has number n
abbrev pub failing : {A : Type 0} → (ℕ → A → Bool) → ℕ → List A → List ℕ
failing test n [] = []
failing test n (x ∷ list) = if test n x then failing test (suc n) list else n ∷ failing test (suc n) list

-- no row fails a test: a refusal shows the numbers of those that do, counted from 0
abbrev pub NoRowFails : (ℕ → Further → Bool) → Type 0
NoRowFails test = failing test 0 further ≡ []

-- the element at a place, if there is one, passes
abbrev pub passes_at : {A : Type 0} → (A → Bool) → List A → ℕ → Bool
passes_at test list i = option_map_or test (slice_get list i) true

first_passes : (r : Bool) (n : ℕ) (later : List ℕ) → (if r then later else n ∷ later) ≡ [] → IsTrue r × (later ≡ [])
first_passes true n later e = (refl, e)
first_passes false n later e = absurd (cc)

none_failing : {A : Type 0} (test : ℕ → A → Bool) (n : ℕ) (list : List A) → failing test n list ≡ [] → (i : ℕ)
    → IsTrue (passes_at (test (n + i)) list i)
none_failing test n [] none zero = refl
none_failing test n [] none (suc i) = refl
none_failing test n (x ∷ list) none zero = rw add-zero (first_passes (test n x) n _ none).0
none_failing test n (x ∷ list) none (suc i) =
    let same : suc n + i ≡ n + suc i = omega arith in
    subst (λ m. IsTrue (passes_at (test m) list i)) same (none_failing test (suc n) list (first_passes (test n x) n _ none).1 i)

pub each_row : (test : ℕ → Further → Bool) → NoRowFails test → (i : ℕ) → IsTrue (passes_at (test i) further i)
each_row test none i =
    let same : 0 + i ≡ i = omega arith in subst (λ n. IsTrue (passes_at (test n) further i)) same (none_failing test 0 further none i)

pub row_passes : (test : ℕ → Further → Bool) → NoRowFails test → (i : ℕ) (d : Further) → i < length further → IsTrue (test i (get_or further i d))
row_passes test none i d lt = subst (λ o. IsTrue (option_map_or (test i) o true)) (slice_get-get_or further i d lt) (each_row test none i)

module _ (test : ℕ → Further → Bool) where
  passes_after : (k n : ℕ) (rows : List Further) → failing test n (take k rows) ≡ [] → failing test (n + k) (drop k rows) ≡ [] → failing test n rows ≡ []
  passes_after zero n rows here after = rw add-zero at after
  passes_after (suc k) n [] here after = refl
  passes_after (suc k) n (r ∷ rows) here after =
      let (first, rest) = first_passes (test n r) n _ here in
      let same : n + suc k ≡ suc n + k = omega arith in
      let later = passes_after k (suc n) rows rest (subst (λ m. failing test m (drop k rows) ≡ []) same after) in
      rw first later

  -- none of 128 rows from n on fails, and none that stands after them
  pub none_from : (n : ℕ) → failing test n (take 128 (drop n further)) ≡ [] → failing test (n + 128) (drop (n + 128) further) ≡ [] → failing test n (drop n further) ≡ []
  none_from n here after = passes_after 128 n (drop n further) here (subst (λ rows. failing test (n + 128) rows ≡ []) (sym (drop-drop 128 n further)) after)

pub all_pass : (test : Further → Bool) → NoRowFails (λ i. test) → IsTrue (list_all test further)
all_pass test none = list_all-from_AllPass test further (row_passes (λ i. test) none)

pub all_closed : IsTrue (list_all is_row_closed further)
unfolding further archives code headers images late markup media packages records disks elements games kinds office others packed papers pictures rasters roots sounds stores scripts documents secrets openings prefaces bitmaps shapes chunks tunes squeezed bundles volumes assorted databases science measures prints compiled keyrings consoles shallow schemas dialects notations unheaded mended remarks captions headlines inner deeper farther buried letters settings scores objects texts
all_closed =
    all_pass is_row_closed refl

pub all_sound : IsTrue (list_all is_row_sound further)
unfolding further archives code headers images late markup media packages records disks elements games kinds office others packed papers pictures rasters roots sounds stores scripts documents secrets openings prefaces bitmaps shapes chunks tunes squeezed bundles volumes assorted databases science measures prints compiled keyrings consoles shallow schemas dialects notations unheaded mended remarks captions headlines inner deeper farther buried letters settings scores objects texts
all_sound =
    all_pass is_row_sound refl
