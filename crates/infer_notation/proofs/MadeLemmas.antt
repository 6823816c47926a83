-- The tokens that are read of a text are those that it is made of.
use Rattle.infer_notation.proofs.Common.{◌≡◌, ◌+◌, ◌<◌, ◌==◌, ◌&&◌, ℕ, zero, suc, Bool, true, false, IsTrue, List, [], ◌∷◌, ◌++◌, Option, None, Some, cond, drop, length, nat_lt, option_map, take, inl, inr, refl, sym, ap, subst, ◌∙◌, arith, slice_index, list_all, prefix_len, cases_Bool, cases_lt, eqb-true, lt-ltb, ltb-true, drop_all, drop_more, BeginsWith, IsMadeOf, blank, by_separator, by_word, empty, in_braces, in_quotes, next, tokens_at, tokens_of, bare, bare_at, is_separator, is_of, separator, quoted, quoted_at, set_at, token_at, ◌>>=◌, first_passes, is_blank, Bare, and_parts}
use Rattle.std.proofs.Common.{◌-◌}
use Rattle.std.proofs.Math.Seq.{drop-append-add, drop-append_seam, get_or-append_seam, take-append_seam}
use Rattle.std.proofs.lemmas.Bool.{eq-eqb, true≢false, false_from_ne_true}
use Rattle.std.proofs.lemmas.List.{get_or-take, get_or_past, length-take-le, take-append-drop}
use Rattle.std.proofs.lemmas.List.Folds.{prefix_len-append}
use Rattle.std.proofs.lemmas.List.Sums.{list_all-from_AllPass, prefix_len-le-length, prefix_len_passes, prefix_len_stops}
use Rattle.infer_notation.specs.Tokens.{Token, set, token_from}
use Rattle.infer_notation.proofs.RelationLemmas.{past_read}
use Rattle.infer_notation.specs.declared.tokens.Run.TheVariants.{Quoted, Set}

-- the bytes up to the first that fails a test pass it, and the next one does not
module _ (p : ℕ → Bool) where
  pub fronts_pass : (xs : List ℕ) → IsTrue (list_all p (take (prefix_len p xs) xs))
  fronts_pass xs =
      let n = prefix_len p xs in
      let le = prefix_len-le-length p xs in
      list_all-from_AllPass p (take n xs) (λ k d lt.
      let within : k < n = (let long = length-take-le n xs le in omega (arith, long, lt)) in
      ap p (get_or-take n xs k d within) ∙ prefix_len_passes p xs k d within)

  pub next_fails : (xs : List ℕ) → first_passes p (drop (prefix_len p xs) xs) ≡ false
  next_fails xs = elim (cases_lt (prefix_len p xs) (length xs)) [
    | inl lt ↦ ap (first_passes p) (drop_more xs (prefix_len p xs) 0 lt) ∙ prefix_len_stops p xs 0 lt
    | inr past ↦ ap (first_passes p) (drop_all (prefix_len p xs) xs past)
  ]

  -- and bytes that pass, before one that does not, are just these
  all_pass : (xs : List ℕ) → IsTrue (list_all p xs) → prefix_len p xs ≡ length xs
  all_pass [] all = refl
  all_pass (x ∷ xs) all = let e = all_pass xs ((and_parts (p x) (list_all p xs) all).1) in rw ((and_parts (p x) (list_all p xs) all).0) (omega (arith, e))

  none_pass : (xs : List ℕ) → first_passes p xs ≡ false → prefix_len p xs ≡ 0
  none_pass [] fails = refl
  none_pass (x ∷ xs) fails = rw fails refl

  pub front_length : (xs rest : List ℕ) → IsTrue (list_all p xs) → first_passes p rest ≡ false → prefix_len p (xs ++ rest) ≡ length xs
  front_length xs rest all fails =
      let e = all_pass xs all in
      let none = none_pass rest fails in
      prefix_len-append p xs rest ∙ rw (e, eq-eqb (length xs) (length xs) refl, none) (omega arith)

-- ---- what is read is what the text is made of

split_at : (p : ℕ → Bool) (xs : List ℕ) (y : ℕ) → 0 < y → slice_index xs (prefix_len p xs) ≡ y → xs ≡ take (prefix_len p xs) xs ++ (y ∷ drop (prefix_len p xs + 1) xs)
split_at p xs y some is = elim (cases_lt (prefix_len p xs) (length xs)) [
  | inl lt ↦ sym (take-append-drop (prefix_len p xs) xs) ∙ ap (λ u. take (prefix_len p xs) xs ++ u) (drop_more xs (prefix_len p xs) 0 lt ∙ ap (λ z. z ∷ drop (prefix_len p xs + 1) xs) is)
  | inr past ↦ absurd (let none = get_or_past xs (prefix_len p xs) 0 past in omega arith)
]

-- a token, and what follows it
abbrev Read : ℕ → List ℕ → Option (Token × ℕ) → Type 0
Read x xs None = Unit {0}
Read x xs (Some t) = BeginsWith (x ∷ xs) t.0 (drop t.1 xs)

quoted_read : (xs : List ℕ) → Read 0x22 xs (quoted_at xs)
quoted_read xs =
    let n = prefix_len (is_of Quoted) xs in
    elim (cases_Bool (nat_lt 0 n && slice_index xs n == 0x22)) [
      | inl is ↦
          let tests = and_parts (nat_lt 0 n) (slice_index xs n == 0x22) is in
          let some = ltb-true 0 n tests.0 in
          let le = prefix_len-le-length (is_of Quoted) xs in
          let whole = split_at (is_of Quoted) xs 0x22 (omega arith) (eqb-true (slice_index xs n) 0x22 tests.1) in
          rw is (subst (λ u. BeginsWith (0x22 ∷ u) (quoted (take n xs)) (drop (n + 1) xs)) (sym whole)
          (in_quotes (take n xs) (drop (n + 1) xs) (let long = length-take-le n xs le in omega arith) (fronts_pass (is_of Quoted) xs)))
      | inr not ↦ rw not tt
    ]

set_read : (xs : List ℕ) → Read 0x7B xs (set_at xs)
set_read xs =
    let n = prefix_len (is_of Set) xs in
    elim (cases_Bool (slice_index xs n == 0x7D)) [
      | inl is ↦
          let whole = split_at (is_of Set) xs 0x7D (omega arith) (eqb-true _ _ is) in
          rw is (subst (λ u. BeginsWith (0x7B ∷ u) (set (take n xs)) (drop (n + 1) xs)) (sym whole) (in_braces (take n xs) (drop (n + 1) xs) (fronts_pass (is_of Set) xs)))
      | inr not ↦ rw not tt
    ]

bare_read : (x : ℕ) (xs : List ℕ) → Read x xs (bare_at (x ∷ xs))
bare_read x xs =
    let n = prefix_len (is_of Bare) (x ∷ xs) in
    elim (cases_Bool (nat_lt 0 n)) [
      | inl is ↦
          let some = ltb-true 0 n is in
          let le = prefix_len-le-length (is_of Bare) (x ∷ xs) in
          rw is (subst (λ u. BeginsWith u (bare (take n (x ∷ xs))) (drop (n - 1) xs)) (take-append-drop n (x ∷ xs))
          (subst (λ u. BeginsWith (take n (x ∷ xs) ++ u) (bare (take n (x ∷ xs))) (drop (n - 1) xs)) (sym (after n some))
          (by_word (take n (x ∷ xs)) (drop (n - 1) xs) (let long = length-take-le n (x ∷ xs) le in omega arith) (fronts_pass (is_of Bare) (x ∷ xs))
          (subst (λ u. first_passes (is_of Bare) u ≡ false) (after n some) (next_fails (is_of Bare) (x ∷ xs))))))
      | inr not ↦ rw not tt
    ]
  where
    after : (n : ℕ) → 0 < n → drop n (x ∷ xs) ≡ drop (n - 1) xs
    after zero lt = absurd (omega arith)
    after (suc n) lt = ap (λ k. drop k xs) (let e : n ≡ suc n - 1 = omega arith in e)

bare_from : (x : ℕ) (xs : List ℕ) → (x == 0x22) ≡ false → (x == 0x7B) ≡ false → is_separator x ≡ false → token_from x xs ≡ bare_at (x ∷ xs)
bare_from x xs quoteless braceless plain =
    let others = cond (is_separator x) (Some (separator x, 0)) (bare_at (x ∷ xs)) in
    ap (λ b. cond b (quoted_at xs) (cond (x == 0x7B) (set_at xs) others)) quoteless
    ∙ ap (λ b. cond b (set_at xs) others) braceless
    ∙ ap (λ b. cond b (Some (separator x, 0)) (bare_at (x ∷ xs))) plain

token_read : (x : ℕ) (xs : List ℕ) → Read x xs (token_from x xs)
token_read x xs = elim (cases_Bool (x == 0x22)) [
  | inl is ↦ rw is (subst (λ y. Read y xs (quoted_at xs)) (sym (eqb-true x 0x22 is)) (quoted_read xs))
  | inr quoteless ↦ elim (cases_Bool (x == 0x7B)) [
    | inl is ↦ rw (quoteless, is) (subst (λ y. Read y xs (set_at xs)) (sym (eqb-true x 0x7B is)) (set_read xs))
    | inr braceless ↦ elim (cases_Bool (is_separator x)) [
      | inl is ↦ rw (quoteless, braceless, is) (by_separator x xs is)
      | inr plain ↦ subst (Read x xs) (sym (bare_from x xs quoteless braceless plain)) (bare_read x xs)
    ]
  ]
]

-- of what stands after some bytes of a token
first_read : (x : ℕ) (xs : List ℕ) (ts : List Token) (more : (n : ℕ) (us : List Token) → tokens_at n xs ≡ Some us → IsMadeOf (drop n xs) us) (o : Option (Token × ℕ)) → Read x xs o
    → (o >>= λ t. option_map (λ us. t.0 ∷ us) (tokens_at t.1 xs)) ≡ Some ts → IsMadeOf (x ∷ xs) ts
first_read x xs ts more None read e = absurd cc
first_read x xs ts more (Some (t, n)) read e = others (tokens_at n xs) refl e
  where
    others : (o : Option (List Token)) → tokens_at n xs ≡ o → option_map (λ us. t ∷ us) o ≡ Some ts → IsMadeOf (x ∷ xs) ts
    others None is e = absurd cc
    others (Some us) is e = let same : t ∷ us ≡ ts = cc in subst (IsMadeOf (x ∷ xs)) same (next (x ∷ xs) (drop n xs) t us read (more n us is))

read_so : (n : ℕ) (xs : List ℕ) (ts : List Token) → tokens_at n xs ≡ Some ts → IsMadeOf (drop n xs) ts
unfolding token_at
read_so n [] ts e = subst (λ u. IsMadeOf u ts) (sym (drop_all n [] (omega arith))) (let none : [] ≡ ts = cc in subst (IsMadeOf []) none empty)
read_so (suc n) (x ∷ xs) ts e = read_so n xs ts e
read_so zero (x ∷ xs) ts e = elim (cases_Bool (is_blank x)) [
  | inl is ↦ blank x xs ts is (read_so zero xs ts (rw is at e))
  | inr dark ↦ first_read x xs ts (λ n us. read_so n xs us) (token_from x xs) (token_read x xs) (rw dark at e)
]

pub is_made : (text : List ℕ) (ts : List Token) → tokens_of text ≡ Some ts → IsMadeOf text ts
is_made text ts e = read_so zero text ts e

-- ---- and what it is made of is read
one_read : (x : ℕ) (xs rest : List ℕ) (t : Token) (n : ℕ) (ts : List Token) → is_blank x ≡ false → token_from x xs ≡ Some (t, n) → drop n xs ≡ rest
    → tokens_at zero rest ≡ Some ts → tokens_at zero (x ∷ xs) ≡ Some (t ∷ ts)
unfolding token_at
one_read x xs rest t n ts dark is after e =
    ap (λ b. cond b (tokens_at zero xs) (token_at (x ∷ xs) >>= λ u. option_map (λ us. u.0 ∷ us) (tokens_at u.1 xs))) dark
    ∙ ap (λ o. o >>= λ u. option_map (λ us. u.0 ∷ us) (tokens_at u.1 xs)) is
    ∙ ap (option_map (λ us. t ∷ us)) (past_read n xs ∙ ap (tokens_at zero) after ∙ e)

-- bytes, a byte that ends them, and what follows it
module _ (p : ℕ → Bool) (xs rest : List ℕ) (y : ℕ) (all : IsTrue (list_all p xs)) (ends : p y ≡ false) where
  abbrev whole : List ℕ
  whole = xs ++ (y ∷ rest)

  ended_length : prefix_len p whole ≡ length xs
  ended_length = front_length p xs (y ∷ rest) all ends

  ended_by : slice_index whole (prefix_len p whole) ≡ y
  ended_by = ap (slice_index whole) ended_length ∙ get_or-append_seam xs y rest 0

  ended_take : take (prefix_len p whole) whole ≡ xs
  ended_take = ap (λ n. take n whole) ended_length ∙ take-append_seam xs (y ∷ rest)

  ended_drop : drop (prefix_len p whole + 1) whole ≡ rest
  ended_drop = ap (λ n. drop (n + 1) whole) ended_length ∙ drop-append-add xs (y ∷ rest) 1

-- a separator, and a byte of a bare word, is neither a blank nor what another token begins with
pub not_same : (P : ℕ → Bool) (x y : ℕ) → P x ≡ true → P y ≡ false → (x == y) ≡ false
not_same P x y is other = false_from_ne_true (x == y) (λ same. true≢false (sym is ∙ ap P (eqb-true x y same) ∙ other))

pub not_blank : (P : ℕ → Bool) (x : ℕ) → P 0x20 ≡ false → P 0x09 ≡ false → P 0x0D ≡ false → P x ≡ true → is_blank x ≡ false
not_blank P x space tab return is = rw (not_same P x 0x20 is space, not_same P x 0x09 is tab, not_same P x 0x0D is return) refl

separator_from : (x : ℕ) (xs : List ℕ) → is_separator x ≡ true → token_from x xs ≡ Some (separator x, 0)
separator_from x xs is =
    ap (λ b. cond b (quoted_at xs) (cond (x == 0x7B) (set_at xs) (cond (is_separator x) (Some (separator x, 0)) (bare_at (x ∷ xs))))) (not_same is_separator x 0x22 is refl)
    ∙ ap (λ b. cond b (set_at xs) (cond (is_separator x) (Some (separator x, 0)) (bare_at (x ∷ xs)))) (not_same is_separator x 0x7B is refl)
    ∙ ap (λ b. cond b (Some (separator x, 0)) (bare_at (x ∷ xs))) is

no_separator : (x : ℕ) → is_of Bare x ≡ true → is_separator x ≡ false
no_separator x is = rw (not_same (is_of Bare) x 0x2C is refl, not_same (is_of Bare) x 0x3A is refl, not_same (is_of Bare) x 0x40 is refl) refl

token_at_front : (text rest : List ℕ) (t : Token) (ts : List Token) → BeginsWith text t rest → tokens_at zero rest ≡ Some ts → tokens_at zero text ≡ Some (t ∷ ts)
token_at_front text rest t ts (in_quotes xs _ some all) e =
    let n = ended_length (is_of Quoted) xs rest 0x22 all refl in
    one_read 0x22 (xs ++ (0x22 ∷ rest)) rest (quoted xs) (prefix_len (is_of Quoted) (xs ++ (0x22 ∷ rest)) + 1) ts refl
    (rw (lt-ltb 0 (prefix_len (is_of Quoted) (xs ++ (0x22 ∷ rest))) (omega (arith, n)), ended_by (is_of Quoted) xs rest 0x22 all refl, ended_take (is_of Quoted) xs rest 0x22 all refl) refl)
    (ended_drop (is_of Quoted) xs rest 0x22 all refl) e
token_at_front text rest t ts (in_braces xs _ all) e =
    one_read 0x7B (xs ++ (0x7D ∷ rest)) rest (set xs) (prefix_len (is_of Set) (xs ++ (0x7D ∷ rest)) + 1) ts refl
    (rw (ended_by (is_of Set) xs rest 0x7D all refl, ended_take (is_of Set) xs rest 0x7D all refl) refl)
    (ended_drop (is_of Set) xs rest 0x7D all refl) e
token_at_front text rest t ts (by_separator x _ is) e = one_read x rest rest (separator x) 0 ts (not_blank is_separator x refl refl refl is) (separator_from x rest is) refl e
token_at_front text rest t ts (by_word [] _ some all ends) e = absurd (omega arith)
token_at_front text rest t ts (by_word (x ∷ xs) _ some all ends) e =
    let is = (and_parts (is_of Bare x) (list_all (is_of Bare) xs) all).0 in
    let n = prefix_len (is_of Bare) (x ∷ (xs ++ rest)) in
    let long : n ≡ length (x ∷ xs) = front_length (is_of Bare) (x ∷ xs) rest all ends in
    let some = lt-ltb 0 n (omega (arith, long)) in
    let written = ap (λ k. take k (x ∷ (xs ++ rest))) long ∙ take-append_seam (x ∷ xs) rest in
    one_read x (xs ++ rest) rest (bare (x ∷ xs)) (n - 1) ts (not_blank (is_of Bare) x refl refl refl is)
    (bare_from x (xs ++ rest) (not_same (is_of Bare) x 0x22 is refl) (not_same (is_of Bare) x 0x7B is refl) (no_separator x is)
    ∙ ap (λ b. cond b (Some (bare (take n (x ∷ (xs ++ rest))), n - 1)) None) some ∙ ap (λ u. Some (bare u, n - 1)) written)
    (ap (λ k. drop k (xs ++ rest)) (let e : n - 1 ≡ length xs = omega (arith, long) in e) ∙ drop-append_seam xs rest) e

pub is_read : (text : List ℕ) (ts : List Token) → IsMadeOf text ts → tokens_of text ≡ Some ts
is_read text ts empty = refl
is_read text ts (blank x rest us is made) = ap (λ b. cond b (tokens_at zero rest) (token_at (x ∷ rest) >>= λ u. option_map (λ vs. u.0 ∷ vs) (tokens_at u.1 rest))) is ∙ is_read rest us made
is_read text ts (next _ rest t us begins made) = token_at_front text rest t us begins (is_read rest us made)
