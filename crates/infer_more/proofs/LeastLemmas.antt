-- The least of the rows that are found.
use Rattle.std.proofs.lemmas.Bool.{or_cases, or_left, or_right}
use Rattle.infer_more.proofs.Common.{◌≡◌, ℕ, zero, suc, ◌+◌, ◌<◌, ◌≤◌, false, IsTrue, List, [], ◌∷◌, ◌++◌, Option, None, Some, length, take, drop, take-append-drop, get_or, ◌⊎◌, inl, inr, ap, sym, ◌∙◌, subst, arith, refl, append_assoc, ◌==◌, if◌then◌else◌, min, cases_lt, leb-true, get_or_default, list_all, nat_le, IsFirstOf, is_listed, IsLeast, IsRowOf, IsTried, ascends, Further, further, Widens, WidensAt, FURTHER_COUNT, candidate, candidates, has_byte}
use Rattle.std.proofs.Math.Nat.{min-le_left, min-le_right}
use Rattle.std.proofs.lemmas.List.{append-nil, take_all}
use Rattle.infer_more.specs.Index.{all_of}
use Rattle.infer_more.specs.declared.index.Entry.{Entry}
use Rattle.infer_more.proofs.IndexLemmas.{both_left, both_right, listed_left, listed_right}
use Rattle.infer_more.proofs.TableLemmas.{length-further}

-- of no number, of one, and of the numbers of two
pub least_none : (P : ℕ → Type 0) (before : ℕ) → ((i : ℕ) → ¬ P i) → IsLeast P before before
least_none P before none = record { below = omega arith; is = λ lt. absurd (omega arith); least = λ i p. absurd (none i p) }

pub least_late : (P : ℕ → Type 0) (before : ℕ) → ((i : ℕ) → P i → before ≤ i) → IsLeast P before before
least_late P before late = record { below = omega arith; is = λ lt. absurd (omega arith); least = late }

pub least_both : (P Q : ℕ → Type 0) (o p q : ℕ) → IsLeast P o p → IsLeast Q p q → IsLeast (λ i. P i ⊎ Q i) o q
least_both P Q o p q h k =
    let first : p ≤ o = h.below in
    let second : q ≤ p = k.below in record {
      below = omega arith;
      is = λ lt. elim (cases_lt q p) [
        | inl less ↦ inr (k.is less)
        | inr more ↦ let e : p ≡ q = omega arith in inl (subst P e (h.is (omega arith)))
      ];
      least = λ i is. elim is [
        | inl l ↦ let le : p ≤ i = h.least i l in omega arith
        | inr r ↦ k.least i r
      ];
    }

pub least_same : (P Q : ℕ → Type 0) (o p : ℕ) → ((i : ℕ) → P i → Q i) → ((i : ℕ) → Q i → P i) → IsLeast P o p → IsLeast Q o p
least_same P Q o p to from h = record { below = h.below; is = λ lt. to p (h.is lt); least = λ i q. h.least i (from i q) }

-- of the numbers of two lists, one after the other
in_either : (xs ys : List ℕ) (i : ℕ) → IsTrue (is_listed (xs ++ ys) i) → IsTrue (is_listed xs i) ⊎ IsTrue (is_listed ys i)
in_either [] ys i h = inr h
in_either (x ∷ xs) ys i h = elim (or_cases (x == i) (is_listed (xs ++ ys) i) h) [
  | inl e ↦ inl (or_left (x == i) (is_listed xs i) e)
  | inr e ↦ elim (in_either xs ys i e) [
    | inl l ↦ inl (or_right (x == i) (is_listed xs i) l)
    | inr l ↦ inr l
  ]
]

module _ (parent : Option ℕ) (b : List ℕ) where
  pub tried_none : (before : ℕ) → IsLeast (IsTried parent b []) before before
  tried_none before = least_none (IsTried parent b []) before (λ i (listed, w). absurd (cc))

  pub tried_more : (xs ys : List ℕ) (o p q : ℕ) → IsLeast (IsTried parent b xs) o p → IsLeast (IsTried parent b ys) p q → IsLeast (IsTried parent b (xs ++ ys)) o q
  tried_more xs ys o p q h k =
      least_same (λ i. IsTried parent b xs i ⊎ IsTried parent b ys i) (IsTried parent b (xs ++ ys)) o q
      (λ i is. elim is [
        | inl l ↦ (listed_left xs ys i l.0, l.1)
        | inr r ↦ (listed_right xs ys i r.0, r.1)
      ])
      (λ i (listed, w). elim (in_either xs ys i listed) [ inl l ↦ inl (l, w) | inr r ↦ inr (r, w) ])
      (least_both _ _ o p q h k)

  -- one more element
  module _ {A : Type 0} (f : A → List ℕ) where
    pub all_more : (xs : List A) (k : ℕ) (d : A) → k < length xs → all_of f (take k xs) ++ f (get_or xs k d) ≡ all_of f (take (k + 1) xs)
    all_more [] k d lt = absurd (omega arith)
    all_more (x ∷ xs) zero d lt = sym (append-nil (f x))
    all_more (x ∷ xs) (suc k) d lt =
        let e : suc k + 1 ≡ suc (k + 1) = omega arith in
        rw e (append_assoc (f x) (all_of f (take k xs)) (f (get_or xs k d)) ∙ ap (λ l. f x ++ l) (all_more xs k d (omega arith)))

    pub tried_one_more : (xs : List A) (k : ℕ) (d : A) (o p q : ℕ) → k < length xs → IsLeast (IsTried parent b (all_of f (take k xs))) o p
        → IsLeast (IsTried parent b (f (get_or xs k d))) p q → IsLeast (IsTried parent b (all_of f (take (k + 1) xs))) o q
    tried_one_more xs k d o p q lt h j = subst (λ l. IsLeast (IsTried parent b l) o q) (all_more xs k d lt) (tried_more _ _ o p q h j)

    pub tried_all : (xs : List A) (n o p : ℕ) → length xs ≤ n → IsLeast (IsTried parent b (all_of f (take n xs))) o p → IsLeast (IsTried parent b (all_of f xs)) o p
    tried_all xs n o p le h = subst (λ l. IsLeast (IsTried parent b (all_of f l)) o p) (take_all n xs le) h

    all_joined : (xs ys : List A) → all_of f (xs ++ ys) ≡ all_of f xs ++ all_of f ys
    all_joined [] ys = refl
    all_joined (x ∷ xs) ys = ap (λ l. f x ++ l) (all_joined xs ys) ∙ sym (append_assoc (f x) (all_of f xs) (all_of f ys))

    -- of a list in two parts
    pub tried_parts : (xs : List A) (n o p q : ℕ) → IsLeast (IsTried parent b (all_of f (take n xs))) o p
        → IsLeast (IsTried parent b (all_of f (drop n xs))) p q → IsLeast (IsTried parent b (all_of f xs)) o q
    tried_parts xs n o p q h k =
        let whole : all_of f (take n xs) ++ all_of f (drop n xs) ≡ all_of f xs = sym (all_joined (take n xs) (drop n xs)) ∙ ap (all_of f) (take-append-drop n xs) in
        subst (λ l. IsLeast (IsTried parent b l) o q) whole (tried_more _ _ o p q h k)

  -- an entry whose byte the buffer lacks adds none
  pub none_tried_more : (entries : List Entry) (k : ℕ) (d : Entry) → k < length entries → candidates b (take k entries) ≡ []
      → has_byte b (get_or entries k d).place (get_or entries k d).byte ≡ false → candidates b (take (k + 1) entries) ≡ []
  none_tried_more entries k d lt none off =
      let e = get_or entries k d in
      let here : candidate b e ≡ [] = ap (λ t. if t then e.row ∷ [] else []) off in
      sym (all_more (candidate b) entries k d lt) ∙ (ap (λ l. l ++ candidate b e) none ∙ here)

  -- the first row is found, or there is none
  pub read_at : (k : ℕ) (d : Further) → k < length further → Widens parent b (get_or further k d) → WidensAt parent b k
  read_at k d lt w = (lt, λ e. subst (Widens parent b) (get_or_default further k d e lt) w)

  pub first_found : (i : ℕ) → IsLeast (WidensAt parent b) FURTHER_COUNT i → i < FURTHER_COUNT → IsFirstOf (Widens parent b) further (Some i)
  first_found i h lt = record {
    within = (h.is lt).0;
    here = (h.is lt).1;
    before = λ k d a less. λ w.
        let within : i < length further = (h.is lt).0 in
        let le : i ≤ k = h.least k (read_at k d (omega arith) w) in
        omega arith;
  }

  pub none_found : (i : ℕ) → IsLeast (WidensAt parent b) FURTHER_COUNT i → FURTHER_COUNT ≤ i → IsFirstOf (Widens parent b) further None
  none_found i h past = λ k d a lt. λ w.
      let many = length-further in
      let le : i ≤ k = h.least k (read_at k d lt w) in
      omega arith

-- the first of entries whose rows ascend that has Q
module _ {A : Type 0} (row : A → ℕ) (Q : A → Type 0) where
  not_earlier : (low i : ℕ) (xs : List A) → IsTrue (list_all (λ f. nat_le low (row f)) xs) → IsRowOf row Q xs i → low ≤ i
  not_earlier low i [] all is = absurd (is)
  not_earlier low i (x ∷ xs) all (inl is) = let le : low ≤ row x = leb-true low (row x) (both_left (nat_le low (row x)) _ all) in omega (arith, is.0)
  not_earlier low i (x ∷ xs) all (inr is) = not_earlier low i xs (both_right (nat_le low (row x)) _ all) is

  is_listed_at : (ys : List A) (j : ℕ) (e : A) → j < length ys → Q (get_or ys j e) → IsRowOf row Q ys (row (get_or ys j e))
  is_listed_at [] j e l q = absurd (omega arith)
  is_listed_at (y ∷ ys) zero e l q = inl (refl, q)
  is_listed_at (y ∷ ys) (suc j) e l q = inr (is_listed_at ys j e (omega arith) q)

  least_listed : (ys : List A) (j : ℕ) (e : A) (i : ℕ) → j < length ys → IsTrue (ascends row ys) → ((m : ℕ) → m < j → ¬ Q (get_or ys m e)) → IsRowOf row Q ys i
      → row (get_or ys j e) ≤ i
  least_listed [] j e i l all no_earlier is = absurd (omega arith)
  least_listed (y ∷ ys) zero e i l all no_earlier (inl is) = omega (arith, is.0)
  least_listed (y ∷ ys) zero e i l all no_earlier (inr is) = not_earlier (row y) i ys (both_left (list_all (λ f. nat_le (row y) (row f)) ys) _ all) is
  least_listed (y ∷ ys) (suc j) e i l all no_earlier (inl is) = absurd (no_earlier 0 (omega arith) is.1)
  least_listed (y ∷ ys) (suc j) e i l all no_earlier (inr is) =
      least_listed ys j e i (omega arith) (both_right (list_all (λ f. nat_le (row y) (row f)) ys) _ all) (λ m less. no_earlier (suc m) (omega arith)) is

  pub rows_first : (xs : List A) (k : ℕ) (d : A) (before : ℕ) → k < length xs → IsTrue (ascends row xs) → ((j : ℕ) → j < k → ¬ Q (get_or xs j d)) → Q (get_or xs k d)
      → IsLeast (IsRowOf row Q xs) before (min before (row (get_or xs k d)))
  rows_first xs k d before lt up none here =
      let low = min-le_left before (row (get_or xs k d)) in
      let high = min-le_right before (row (get_or xs k d)) in record {
        below = low;
        is = λ less. let e : row (get_or xs k d) ≡ min before (row (get_or xs k d)) = by_min before (row (get_or xs k d)) less in subst (IsRowOf row Q xs) e (is_listed_at xs k d lt here);
        least = λ i is. let le = least_listed xs k d i lt up none is in omega arith;
      }
    where
      by_min : (m n : ℕ) → min m n < m → n ≡ min m n
      by_min m n less = grind arith

  pub none_more : (xs : List A) (k : ℕ) (e : A) → k < length xs → ((j : ℕ) (d : A) → j < k → ¬ Q (get_or xs j d)) → ¬ Q (get_or xs k e)
      → (j : ℕ) (d : A) → j < k + 1 → ¬ Q (get_or xs j d)
  none_more xs k e lt before here j d less = elim (cases_lt j k) [
    | inl l ↦ before j d l
    | inr l ↦
        let same : k ≡ j = omega arith in
        subst (λ n. ¬ Q (get_or xs n d)) same (subst (λ x. ¬ Q x) (get_or_default xs k e d lt) here)
  ]

  -- or none at all
  pub rows_past : (xs : List A) (d : A) (before : ℕ) → ((j : ℕ) → j < length xs → ¬ Q (get_or xs j d)) → IsLeast (IsRowOf row Q xs) before before
  rows_past xs d before none = least_none (IsRowOf row Q xs) before (nowhere xs d none)
    where
      nowhere : (ys : List A) (e : A) → ((j : ℕ) → j < length ys → ¬ Q (get_or ys j e)) → (i : ℕ) → ¬ IsRowOf row Q ys i
      nowhere [] e no_one i is = is
      nowhere (y ∷ ys) e no_one i (inl is) = no_one 0 (omega arith) is.1
      nowhere (y ∷ ys) e no_one i (inr is) = nowhere ys e (λ j less. no_one (suc j) (omega arith)) i is

-- by what is known of each entry in its place
pub rows_same : {A : Type 0} (row : A → ℕ) (P Q : A → Type 0) (xs : List A) → ((k : ℕ) (d : A) → k < length xs → P (get_or xs k d) → Q (get_or xs k d)) → (i : ℕ)
    → IsRowOf row P xs i → IsRowOf row Q xs i
rows_same row P Q [] to i h = h
rows_same row P Q (x ∷ xs) to i (inl h) = inl (h.0, to 0 x (omega arith) h.1)
rows_same row P Q (x ∷ xs) to i (inr h) = inr (rows_same row P Q xs (λ k d lt. to (suc k) d (omega arith)) i h)

pub no_rows : {A : Type 0} (row : A → ℕ) (Q : A → Type 0) (xs : List A) → ((k : ℕ) (d : A) → k < length xs → ¬ Q (get_or xs k d)) → (i : ℕ) → ¬ IsRowOf row Q xs i
no_rows row Q [] none i h = h
no_rows row Q (x ∷ xs) none i (inl h) = none 0 x (omega arith) h.1
no_rows row Q (x ∷ xs) none i (inr h) = no_rows row Q xs (λ k d lt. none (suc k) d (omega arith)) i h
