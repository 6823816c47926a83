-- Tokens that a text begins with.
use Rattle.std.proofs.Common.{◌≡◌, ◌∙◌, ◌++◌, ◌∷◌, [], ℕ, suc, ◌+◌, ◌-◌, ◌<◌, ◌≤◌, ◌&&◌, ◌⊎◌, List, None, Some, Bool, true, false, ap, append_assoc, arith, drop, inl, inr, length, length-append, length-take, refl, reverse, subst, sym, take}
use Rattle.std.proofs.Math.Dec.{leb-suc-suc, leb-suc-zero, leb-zero}
use Rattle.std.proofs.Math.Seq.{take-append_seam}
use Rattle.std.proofs.lemmas.Bool.{and_parts, eqb-true, false≢true, lt-leb, lt-ltb}
use Rattle.std.proofs.lemmas.List.{append-nil, length-reverse, reverse-append, take-append-drop, take_all}
use Rattle.std.proofs.lemmas.List.Folds.{length-prefix_len, list_all-append}
use Rattle.std.specs.List.{list_all, prefix_len, suffix_len}
use Rattle.std.specs.Prelude.{cond, nat_le, nat_lt, not, slice_index_or}
use Rattle.mime_types.specs.Bytes.{is_token, is_white}
use Rattle.mime_types.specs.Parse.{after_semicolon_first, after_slash_first, if_token, subtype_before}
use Rattle.mime_types.specs.Text.{before, after, after_tokens, front, is_a_token, is_semicolon, is_slash, tokens_before, trim_end, trim_start}
use Rattle.mime_types.proofs.CutLemmas.{EndsDark, after_cut, after_whole, front_cut, front_whole, no_end, other_byte, token_dark}

one_more : (n : ℕ) → 1 + n ≡ suc n
one_more n = omega arith

take_one : (n x : ℕ) (s : List ℕ) → take (1 + n) (x ∷ s) ≡ x ∷ take n s
take_one n x s = ap (λ i. take i (x ∷ s)) (one_more n)

drop_one : (n x : ℕ) (s : List ℕ) → drop (1 + n) (x ∷ s) ≡ drop n s
drop_one n x s = ap (λ i. drop i (x ∷ s)) (one_more n)

module _ (p : ℕ → Bool) where
  -- what passes at the start of a text, and what stops it
  pub all_before : (s : List ℕ) → list_all p (take (prefix_len p s) s) ≡ true
  all_before [] = refl
  all_before (x ∷ s) = cases (p x) refl (all_before s)
    where
      cases : (b : Bool) → p x ≡ b → list_all p (take (prefix_len p s) s) ≡ true → list_all p (take (cond b (1 + prefix_len p s) 0) (x ∷ s)) ≡ true
      cases true is others =
          ap (list_all p) (take_one (prefix_len p s) x s) ∙ (ap (λ b. b && list_all p (take (prefix_len p s) s)) is ∙ others)
      cases false is others = refl

  pub stopped : (s : List ℕ) (c : ℕ) (r : List ℕ) → drop (prefix_len p s) s ≡ c ∷ r → p c ≡ false
  stopped [] c r is = cc
  stopped (x ∷ s) c r is = cases (p x) refl (stopped s c r) is
    where
      cases : (b : Bool) → p x ≡ b → (drop (prefix_len p s) s ≡ c ∷ r → p c ≡ false) → drop (cond b (1 + prefix_len p s) 0) (x ∷ s) ≡ c ∷ r
          → p c ≡ false
      cases true e others is = others (sym (drop_one (prefix_len p s) x s) ∙ is)
      cases false e others is = let same : x ≡ c = cc in ap p (sym same) ∙ e

  -- the front of a text passes if what passes reaches as far
  reaches : (a r : List ℕ) → list_all p a ≡ nat_le (length a) (prefix_len p (a ++ r))
  reaches [] r = sym (leb-zero (prefix_len p r))
  reaches (x ∷ a) r = cases (p x) (reaches a r)
    where
      cases : (b : Bool) → list_all p a ≡ nat_le (length a) (prefix_len p (a ++ r))
          → (b && list_all p a) ≡ nat_le (length (x ∷ a)) (cond b (1 + prefix_len p (a ++ r)) 0)
      cases true others =
          let n = prefix_len p (a ++ r) in
          let more : suc n ≡ 1 + n = omega arith in
          others ∙ (sym (leb-suc-suc (length a) n) ∙ ap (nat_le (suc (length a))) more)
      cases false others = sym (leb-suc-zero (length a))

  -- it reaches to the first that does not pass, and no further than any
  pub reaches_to : (a : List ℕ) (c : ℕ) (r : List ℕ) → list_all p a ≡ true → p c ≡ false → prefix_len p (a ++ c ∷ r) ≡ length a
  reaches_to [] c r all is = ap (λ b. cond b (1 + prefix_len p r) 0) is
  reaches_to (x ∷ a) c r all is =
      let parts = and_parts (p x) (list_all p a) all in
      let rest = reaches_to a c r parts.1 is in
      ap (λ b. cond b (1 + prefix_len p (a ++ c ∷ r)) 0) parts.0 ∙ omega (arith, rest)

  pub reaches_all : (a : List ℕ) → list_all p a ≡ true → prefix_len p a ≡ length a
  reaches_all [] all = refl
  reaches_all (x ∷ a) all =
      let parts = and_parts (p x) (list_all p a) all in
      let rest = reaches_all a parts.1 in
      ap (λ b. cond b (1 + prefix_len p a) 0) parts.0 ∙ omega (arith, rest)

  no_further : (a : List ℕ) (c : ℕ) (r : List ℕ) → p c ≡ false → prefix_len p (a ++ c ∷ r) ≤ length a
  no_further [] c r is = let none : prefix_len p (c ∷ r) ≡ 0 = ap (λ b. cond b (1 + prefix_len p r) 0) is in omega (arith, none)
  no_further (x ∷ a) c r is = cases (p x) (no_further a c r is)
    where
      cases : (b : Bool) → prefix_len p (a ++ c ∷ r) ≤ length a → cond b (1 + prefix_len p (a ++ c ∷ r)) 0 ≤ length (x ∷ a)
      cases true less = omega (arith, less)
      cases false less = omega arith

  all_reversed : (a : List ℕ) → list_all p a ≡ true → list_all p (reverse a) ≡ true
  all_reversed [] all = refl
  all_reversed (x ∷ a) all =
      let parts = and_parts (p x) (list_all p a) all in
      ap (list_all p) (reverse-append (x ∷ []) a)
      ∙ (list_all-append p (reverse a) (x ∷ [])
      ∙ (ap (λ b. b && (p x && true)) (all_reversed a parts.1) ∙ ap (λ b. b && true) parts.0))

-- a byte that is no white space stays, with all before it
dark_stays : (a : List ℕ) (c : ℕ) (r : List ℕ) → is_white c ≡ false → length a < length (trim_end (a ++ c ∷ r))
dark_stays a c r dark =
    omega (arith, length-take (length (a ++ c ∷ r) - suffix_len is_white (a ++ c ∷ r)) (a ++ c ∷ r), length-append a (c ∷ r), less)
  where
    turned : reverse (a ++ c ∷ r) ≡ reverse r ++ c ∷ reverse a
    turned =
        reverse-append a (c ∷ r)
        ∙ (ap (λ x. x ++ reverse a) (reverse-append (c ∷ []) r) ∙ append_assoc (reverse r) (c ∷ []) (reverse a))

    less : suffix_len is_white (a ++ c ∷ r) ≤ length r
    less =
        let most = no_further is_white (reverse r) c (reverse a) dark in
        omega (arith, most, length-reverse r, ap (prefix_len is_white) turned)

-- white space after a token goes
module _ (s w : List ℕ) (white : list_all is_white w ≡ true) where
  all_go : trim_end w ≡ []
  all_go =
      let all : suffix_len is_white w ≡ length w
      = reaches_all is_white (reverse w) (all_reversed is_white w white) ∙ length-reverse w in
      let none : length w - suffix_len is_white w ≡ 0 = omega (arith, all) in
      ap (λ n. take n w) none

  dark_end : EndsDark s → trim_end (s ++ w) ≡ s
  dark_end e = ap (λ n. take n (s ++ w)) left_over ∙ take-append_seam s w
    where
      turned : reverse (s ++ w) ≡ reverse w ++ e.last ∷ reverse e.start
      turned = reverse-append s w ∙ ap (λ x. reverse w ++ x) (ap reverse e.whole ∙ reverse-append e.start (e.last ∷ []))

      all : suffix_len is_white (s ++ w) ≡ length w
      all =
          ap (prefix_len is_white) turned
          ∙ (reaches_to is_white (reverse w) e.last (reverse e.start) (all_reversed is_white w white) e.dark ∙ length-reverse w)

      left_over : length (s ++ w) - suffix_len is_white (s ++ w) ≡ length s
      left_over = omega (arith, all, length-append s w)

trimmed_after : (s w : List ℕ) → list_all is_token s ≡ true → list_all is_white w ≡ true → trim_end (s ++ w) ≡ s
trimmed_after [] w tokens white = all_go [] w white
trimmed_after (x ∷ s) w tokens white = dark_end (x ∷ s) w white (token_dark (x ∷ s) (omega arith) tokens)

-- a part goes on over bytes that do not end it
module _ (ends : ℕ → Bool) where
  front_goes_on : (a : List ℕ) (c : ℕ) (r : List ℕ) → list_all (λ x. not (ends x)) a ≡ true → ends c ≡ false
      → front ends (a ++ c ∷ r) ≡ a ++ c ∷ front ends r
  front_goes_on [] c r none is = ap (λ b. take (cond (not b) (1 + before ends r) 0) (c ∷ r)) is ∙ take_one (before ends r) c r
  front_goes_on (x ∷ a) c r none is =
      let parts = and_parts (not (ends x)) (list_all (λ y. not (ends y)) a) none in
      ap (λ b. take (cond b (1 + before ends (a ++ c ∷ r)) 0) (x ∷ (a ++ c ∷ r))) parts.0
      ∙ (take_one (before ends (a ++ c ∷ r)) x (a ++ c ∷ r) ∙ ap (λ y. x ∷ y) (front_goes_on a c r parts.1 is))

-- the part is a token if it is no longer than the tokens that the text begins with
tells_token : (part r s : List ℕ) (tokens : ℕ) → part ++ r ≡ s → tokens ≡ prefix_len is_token s
    → (nat_lt 0 (length part) && nat_le (length part) tokens) ≡ is_a_token part
tells_token part r s tokens whole is =
    ap (λ n. nat_lt 0 (length part) && nat_le (length part) n) (is ∙ ap (prefix_len is_token) (sym whole))
    ∙ ap (λ b. nat_lt 0 (length part) && b) (sym (reaches is_token part r))

-- the same of a subtype
subtype_tells : (t a : List ℕ) (tokens : ℕ) → a ≡ trim_end (front is_semicolon t) → tokens ≡ prefix_len is_token t
    → (nat_lt 0 (length a) && nat_le (length a) tokens) ≡ is_a_token a
subtype_tells t a tokens e is =
    let k = before is_semicolon t in
    let n = length (take k t) - suffix_len is_white (take k t) in
    tells_token a (drop n (take k t) ++ drop k t) t tokens
    (ap (λ x. x ++ (drop n (take k t) ++ drop k t)) e
    ∙ (sym (append_assoc (take n (take k t)) (drop n (take k t)) (drop k t))
    ∙ (ap (λ x. x ++ drop k t) (take-append-drop n (take k t)) ∙ take-append-drop k t))) is

-- what a text says that is cut after its tokens, if a "/" stands there: and otherwise it says no type
abbrev pub SlashTold : List ℕ → List ℕ → Type 0
SlashTold t b =
    ((front is_slash t ≡ tokens_before t) × (after is_slash t ≡ b))
    ⊎ ((b ≡ []) × ((list_all is_token (front is_slash t) && is_a_token (subtype_before (after is_slash t))) ≡ false))

and_false : (b : Bool) → (b && false) ≡ false
and_false true = refl
and_false false = refl

white_is_no_semicolon : (x : ℕ) → is_white x ≡ true → not (is_semicolon x) ≡ true
white_is_no_semicolon x is = cases (is_semicolon x) refl
  where
    cases : (b : Bool) → is_semicolon x ≡ b → not b ≡ true
    cases false e = refl
    cases true e = absurd (false≢true (ap is_white (sym (eqb-true x 0x3B e)) ∙ is))

white_goes_on : (a : List ℕ) → list_all is_white a ≡ true → list_all (λ x. not (is_semicolon x)) a ≡ true
white_goes_on [] all = refl
white_goes_on (x ∷ a) all =
    let parts = and_parts (is_white x) (list_all is_white a) all in
    ap (λ b. b && list_all (λ y. not (is_semicolon y)) a) (white_is_no_semicolon x parts.0) ∙ white_goes_on a parts.1

if_itself : (s : List ℕ) → list_all is_token s ≡ true → s ≡ if_token s
if_itself [] all = refl
if_itself (x ∷ s) all =
    let some = lt-ltb 0 (length (x ∷ s)) (omega arith) in
    sym (ap (λ b. cond (b && list_all is_token (x ∷ s)) (x ∷ s) []) some ∙ ap (λ b. cond b (x ∷ s) []) all)

module _ (t : List ℕ) where
  whole : t ≡ tokens_before t ++ after_tokens t
  whole = sym (take-append-drop (prefix_len is_token t) t)

  joined : (b : List ℕ) → after_tokens t ≡ b → t ≡ tokens_before t ++ b
  joined b is = whole ∙ ap (λ x. tokens_before t ++ x) is

  no_slash : list_all (λ x. not (is_slash x)) (tokens_before t) ≡ true
  no_slash = no_end is_slash (other_byte 0x2F refl) (tokens_before t) (all_before is_token t)

  told_nothing : after_tokens t ≡ [] → (list_all is_token (front is_slash t) && is_a_token (subtype_before (after is_slash t))) ≡ false
  told_nothing is =
      ap (λ s. list_all is_token (front is_slash t) && is_a_token (subtype_before s)) none ∙ and_false (list_all is_token (front is_slash t))
    where
      none : after is_slash t ≡ []
      none =
          ap (after is_slash) (joined [] is ∙ append-nil (tokens_before t)) ∙ after_whole is_slash (tokens_before t) no_slash

  told_of : (x : ℕ) (r : List ℕ) → after_tokens t ≡ x ∷ r → (b : Bool) → is_slash x ≡ b → SlashTold t (cond b r [])
  told_of x r is true same = inl (
    ap (front is_slash) (joined (x ∷ r) is) ∙ front_cut is_slash (tokens_before t) no_slash x r same,
    ap (after is_slash) (joined (x ∷ r) is) ∙ after_cut is_slash (tokens_before t) no_slash x r same,
  )
  told_of x r is false other = inr (refl, ap (λ b. b && is_a_token (subtype_before (after is_slash t))) bad)
    where
      bad : list_all is_token (front is_slash t) ≡ false
      bad =
          ap (λ s. list_all is_token (front is_slash s)) (joined (x ∷ r) is)
          ∙ (ap (list_all is_token) (front_goes_on is_slash (tokens_before t) x r no_slash other)
          ∙ (list_all-append is_token (tokens_before t) (x ∷ front is_slash r)
          ∙ (ap (λ b. list_all is_token (tokens_before t) && (b && list_all is_token (front is_slash r))) (stopped is_token t x r is)
          ∙ and_false (list_all is_token (tokens_before t)))))

  pub slash_told : SlashTold t (after_slash_first (after_tokens t))
  slash_told = cases (after_tokens t) refl
    where
      cases : (b : List ℕ) → after_tokens t ≡ b → SlashTold t (after_slash_first b)
      cases [] is = inr (refl, told_nothing is)
      cases (x ∷ r) is = told_of x r is (is_slash x) refl

  -- the white space after the tokens
  abbrev blanks : List ℕ
  blanks = take (prefix_len is_white (after_tokens t)) (after_tokens t)

  blanks_white : list_all is_white blanks ≡ true
  blanks_white = all_before is_white (after_tokens t)

  cut : (b : List ℕ) → trim_start (after_tokens t) ≡ b → t ≡ (tokens_before t ++ blanks) ++ b
  cut b is =
      joined (blanks ++ b) (sym (take-append-drop (prefix_len is_white (after_tokens t)) (after_tokens t)) ∙ ap (λ x. blanks ++ x) is)
      ∙ sym (append_assoc (tokens_before t) blanks b)

  no_semicolon : list_all (λ x. not (is_semicolon x)) (tokens_before t ++ blanks) ≡ true
  no_semicolon =
      list_all-append (λ x. not (is_semicolon x)) (tokens_before t) blanks
      ∙ (ap (λ b. b && list_all (λ x. not (is_semicolon x)) blanks) (no_end is_semicolon (other_byte 0x3B refl) (tokens_before t) (all_before is_token t))
      ∙ white_goes_on blanks blanks_white)

  -- the tokens are the subtype if nothing but white space stands after them in its part
  is_subtype : front is_semicolon t ≡ tokens_before t ++ blanks → tokens_before t ≡ if_token (subtype_before t)
  is_subtype part =
      if_itself (tokens_before t) (all_before is_token t)
      ∙ ap if_token (sym (trimmed_after (tokens_before t) blanks (all_before is_token t) blanks_white) ∙ ap trim_end (sym part))

  ends_there : trim_start (after_tokens t) ≡ [] → (tokens_before t ≡ if_token (subtype_before t)) × ([] ≡ after is_semicolon t)
  ends_there is =
      let same = cut [] is ∙ append-nil (tokens_before t ++ blanks) in (
        is_subtype (ap (front is_semicolon) same ∙ front_whole is_semicolon (tokens_before t ++ blanks) no_semicolon),
        sym (ap (after is_semicolon) same ∙ after_whole is_semicolon (tokens_before t ++ blanks) no_semicolon),
      )

  semicolon_there : (x : ℕ) (r : List ℕ) → trim_start (after_tokens t) ≡ x ∷ r → is_semicolon x ≡ true → (tokens_before t ≡ if_token (subtype_before t)) × (r ≡ after is_semicolon t)
  semicolon_there x r is same = (
    is_subtype (ap (front is_semicolon) (cut (x ∷ r) is) ∙ front_cut is_semicolon (tokens_before t ++ blanks) no_semicolon x r same),
    sym (ap (after is_semicolon) (cut (x ∷ r) is) ∙ after_cut is_semicolon (tokens_before t ++ blanks) no_semicolon x r same),
  )

  other_there : (c : ℕ) (r : List ℕ) → trim_start (after_tokens t) ≡ c ∷ r → is_semicolon c ≡ false → is_a_token (subtype_before t) ≡ false
  other_there c r is other =
      sym (subtype_tells t (subtype_before t) (prefix_len is_token t) refl refl)
      ∙ (ap (λ b. nat_lt 0 (length (subtype_before t)) && b) (lt-leb (length (subtype_before t)) (prefix_len is_token t) more)
      ∙ and_false (nat_lt 0 (length (subtype_before t))))
    where
      part : subtype_before t ≡ trim_end ((tokens_before t ++ blanks) ++ c ∷ front is_semicolon r)
      part = ap subtype_before (cut (c ∷ r) is) ∙ ap trim_end (front_goes_on is_semicolon (tokens_before t ++ blanks) c r no_semicolon other)

      more : prefix_len is_token t < length (subtype_before t)
      more =
          omega (
            arith,
            ap length part,
            dark_stays (tokens_before t ++ blanks) c (front is_semicolon r) (stopped is_white (after_tokens t) c r is),
            length-append (tokens_before t) blanks,
            length-prefix_len is_token t,
          )

  abbrev pub Told : List ℕ → Type 0
  Told tail = (tokens_before t ≡ if_token (subtype_before t)) × (tail ≡ after is_semicolon t)

  pub subtype_told : (tail : List ℕ) → Some tail ≡ after_semicolon_first (trim_start (after_tokens t)) → Told tail
  subtype_told tail is = cases (trim_start (after_tokens t)) refl is
    where
      told : (x : ℕ) (r : List ℕ) → trim_start (after_tokens t) ≡ x ∷ r → (b : Bool) → is_semicolon x ≡ b → Some tail ≡ cond b (Some r) None → Told tail
      told x r e true same is = let it : r ≡ tail = cc in subst Told it (semicolon_there x r e same)
      told x r e false other is = cc

      cases : (b : List ℕ) → trim_start (after_tokens t) ≡ b → Some tail ≡ after_semicolon_first b → Told tail
      cases [] e is = let it : [] ≡ tail = cc in subst Told it (ends_there e)
      cases (x ∷ r) e is = told x r e (is_semicolon x) refl is

  pub no_subtype_told : None ≡ after_semicolon_first (trim_start (after_tokens t)) → is_a_token (subtype_before t) ≡ false
  no_subtype_told is = cases (trim_start (after_tokens t)) refl is
    where
      told : (x : ℕ) (r : List ℕ) → trim_start (after_tokens t) ≡ x ∷ r → (b : Bool) → is_semicolon x ≡ b → None ≡ cond b (Some r) None
          → is_a_token (subtype_before t) ≡ false
      told x r e true same is = cc
      told x r e false other is = other_there x r e other

      cases : (b : List ℕ) → trim_start (after_tokens t) ≡ b → None ≡ after_semicolon_first b → is_a_token (subtype_before t) ≡ false
      cases [] e is = cc
      cases (x ∷ r) e is = told x r e (is_semicolon x) refl is

-- four tokens more
passes : (x : ℕ) (s : List ℕ) → is_token x ≡ true → after_tokens (x ∷ s) ≡ after_tokens s
passes x s is = ap (λ b. drop (cond b (1 + prefix_len is_token s) 0) (x ∷ s)) is ∙ drop_one (prefix_len is_token s) x s

pub four_pass : (s : List ℕ) → 4 ≤ length s
    → (((is_token (slice_index_or s 0 0) && is_token (slice_index_or s 1 0)) && is_token (slice_index_or s 2 0)) && is_token (slice_index_or s 3 0)) ≡ true
    → after_tokens (take (length s - 4) (drop 4 s)) ≡ after_tokens s
four_pass [] long all = absurd (omega (arith, long))
four_pass (a ∷ []) long all = absurd (omega (arith, long))
four_pass (a ∷ b ∷ []) long all = absurd (omega (arith, long))
four_pass (a ∷ b ∷ c ∷ []) long all = absurd (omega (arith, long))
four_pass (a ∷ b ∷ c ∷ d ∷ s) long all =
    let fourth = and_parts ((is_token a && is_token b) && is_token c) (is_token d) all in
    let third = and_parts (is_token a && is_token b) (is_token c) fourth.0 in
    let both = and_parts (is_token a) (is_token b) third.0 in
    ap after_tokens (take_all (length (a ∷ b ∷ c ∷ d ∷ s) - 4) s (omega arith))
    ∙ sym (passes a (b ∷ c ∷ d ∷ s) both.0 ∙ (passes b (c ∷ d ∷ s) both.1 ∙ (passes c (d ∷ s) third.1 ∙ passes d s fourth.1)))
