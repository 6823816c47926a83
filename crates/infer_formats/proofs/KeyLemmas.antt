-- The first key of an object, read once for all that ask for one, and the first byte after white space.
use Rattle.infer_formats.proofs.Common.{[], ◌≡◌, ◌⊎◌, inl, inr, ℕ, zero, suc, ◌+◌, ◌<◌, ◌≤◌, ◌==◌, ◌↔◌, ◌∙◌, Bool, true, false, IsTrue, List, ◌∷◌, ◌++◌, append_assoc, length, length-append, drop, take, not, slice_index, refl, sym, subst, ap, arith, and_from, and_parts, eq-eqb, IsBlank, IsPast, IsPastMark, IsXmlSpace, Nowhere, Passes, is_byte}
use Rattle.std.specs.Prelude.{slice_index_or}
use Rattle.infer_formats.specs.FirstKey.{BeginsByKey, EndsInQuote, IsFirstKey, StandsFirst, StandsNext, has_no_quote, in_quotes}
use Rattle.infer_formats.specs.Laws.{BeginsMarkup}
use Rattle.infer_formats.proofs.FirstKeyLemmas.{next_parted, no_mark, up_to_mark}

-- ---- a text up to the first quote

no_quote : (x : ℕ) → IsTrue (not (x == 0x22)) → ¬ (x ≡ 0x22)
no_quote x h e = let f : IsTrue (not (0x22 == 0x22)) = subst (λ y. IsTrue (not (y == 0x22))) e h in absurd (cc)

quote_same : (t u l m : List ℕ) → IsTrue (has_no_quote t) → IsTrue (has_no_quote u) → t ++ 0x22 ∷ l ≡ u ++ 0x22 ∷ m → (t ≡ u) × (l ≡ m)
quote_same [] [] l m h k e = (refl, ap (drop 1) e)
quote_same [] (y ∷ u) l m h k e = absurd (no_quote y (and_parts (not (y == 0x22)) _ k).0 (let first : y ≡ 0x22 = cc in first))
quote_same (x ∷ t) [] l m h k e = absurd (no_quote x (and_parts (not (x == 0x22)) _ h).0 (let first : x ≡ 0x22 = cc in first))
quote_same (x ∷ t) (y ∷ u) l m h k e =
    let first : x ≡ y = cc in
    let (same, left) = quote_same t u l m (and_parts (not (x == 0x22)) _ h).1 (and_parts (not (y == 0x22)) _ k).1 (ap (drop 1) e) in
    (subst (λ z. x ∷ t ≡ z ∷ u) first (ap (λ v. x ∷ v) same), left)

pub quote_at : (s : List ℕ) (n : ℕ) → n < length s → slice_index s n ≡ 0x22 → s ≡ take n s ++ 0x22 ∷ drop (n + 1) s
quote_at [] n lt at = absurd (omega arith)
quote_at (x ∷ s) zero lt at = ap (λ y. y ∷ s) at
quote_at (x ∷ s) (suc n) lt at = let e : suc n + 1 ≡ suc (n + 1) = omega arith in rw e (ap (λ t. x ∷ t) (quote_at s n (omega arith) at))

other : (t : Bool) → ¬ (t ≡ true) → not t ≡ true
other true h = absurd (h refl)
other false h = refl

pub none_before : (s : List ℕ) (n : ℕ) → Nowhere (Passes (is_byte 0x22) s) 0 n → IsTrue (has_no_quote (take n s))
none_before [] zero none = refl
none_before [] (suc n) none = refl
none_before (x ∷ s) zero none = refl
none_before (x ∷ s) (suc n) none =
    and_from (not (x == 0x22)) (has_no_quote (take n s)) (other (x == 0x22) (none 0 (omega arith) (omega arith)))
    (none_before s n (λ k low lt. none (suc k) (omega arith) (omega arith)))

quote_stands : (t left : List ℕ) → slice_index (t ++ 0x22 ∷ left) (length t) ≡ 0x22
quote_stands [] left = refl
quote_stands (x ∷ t) left = quote_stands t left

pub no_ending : (s : List ℕ) → Nowhere (Passes (is_byte 0x22) s) 0 (length s) → (t left : List ℕ) → ¬ EndsInQuote t left s
no_ending s none t left (dark, e) =
    let long : length s ≡ length t + length (0x22 ∷ left) = ap length e ∙ length-append t (0x22 ∷ left) in
    let at : slice_index s (length t) ≡ 0x22 = ap (λ u. slice_index u (length t)) e ∙ quote_stands t left in
    none (length t) (omega arith) (omega arith) (eq-eqb (slice_index s (length t)) 0x22 at)

-- ---- the key, part by part

module _ (b w inside : List ℕ) (past : IsPastMark b w) (first : (left : List ℕ) → StandsNext (0x7B ∷ []) w left ↔ (left ≡ inside)) where
  key_begins : (k left : List ℕ) → IsFirstKey k left b → (d : List ℕ) × StandsNext (0x22 ∷ []) inside ((k ++ 0x22 ∷ []) ++ d) × StandsNext (0x3A ∷ []) d left
  key_begins k left (dark, up) =
      let (i, d, f, g, h) = (up_to_mark (λ v. BeginsByKey k v left) b w past (λ u. no_mark k u left)).0 up in
      let one : i ≡ inside = (first i).0 f in
      (d, (next_parted 0x22 (k ++ 0x22 ∷ []) inside d).0 (subst (λ u. StandsNext (in_quotes k) u d) one g), h)

  pub no_quoted : ((left : List ℕ) → ¬ StandsNext (0x22 ∷ []) inside left) → (k left : List ℕ) → ¬ IsFirstKey k left b
  no_quoted none k left is = let (d, g, h) = key_begins k left is in none ((k ++ 0x22 ∷ []) ++ d) g

  module _ (quoted : List ℕ) (second : (left : List ℕ) → StandsNext (0x22 ∷ []) inside left ↔ (left ≡ quoted)) where
    key_ends : (k left : List ℕ) → IsFirstKey k left b → (d : List ℕ) × EndsInQuote k d quoted × StandsNext (0x3A ∷ []) d left
    key_ends k left is =
        let (d, g, h) = key_begins k left is in
        (d, (is.0, sym ((second ((k ++ 0x22 ∷ []) ++ d)).0 g) ∙ append_assoc k (0x22 ∷ []) d), h)

    pub no_end : ((t left : List ℕ) → ¬ EndsInQuote t left quoted) → (k left : List ℕ) → ¬ IsFirstKey k left b
    no_end none k left is = let (d, e, h) = key_ends k left is in none k d e

    module _ (t after : List ℕ) (ends : EndsInQuote t after quoted) where
      key_left : (k left : List ℕ) → IsFirstKey k left b → (k ≡ t) × StandsNext (0x3A ∷ []) after left
      key_left k left is =
          let (d, e, h) = key_ends k left is in
          let same = quote_same k t d after e.0 ends.0 (sym e.1 ∙ ends.1) in
          (same.0, subst (λ u. StandsNext (0x3A ∷ []) u left) same.1 h)

      pub no_colon : ((left : List ℕ) → ¬ StandsNext (0x3A ∷ []) after left) → (k left : List ℕ) → ¬ IsFirstKey k left b
      no_colon none k left is = none left (key_left k left is).1

      module _ (rest : List ℕ) (third : (left : List ℕ) → StandsNext (0x3A ∷ []) after left ↔ (left ≡ rest)) where
        pub key_is : IsFirstKey t rest b
        key_is =
            let key = (next_parted 0x22 (t ++ 0x22 ∷ []) inside after).1 ((second ((t ++ 0x22 ∷ []) ++ after)).1 (append_assoc t (0x22 ∷ []) after ∙ sym ends.1)) in (
              ends.0,
              (up_to_mark (λ v. BeginsByKey t v rest) b w past (λ u. no_mark t u rest)).1
                  (inside, after, (first inside).1 refl, key, (third rest).1 refl),
            )

        pub key_only : (k left : List ℕ) → IsFirstKey k left b → (k ≡ t) × (left ≡ rest)
        key_only k left is = let its = key_left k left is in (its.0, (third left).0 its.1)

-- ---- the first byte after white space

pub dark_past : (b t : List ℕ) → IsPast b t → 1 ≤ length t → (¬ IsBlank (slice_index_or t 0 0)) × StandsFirst (slice_index_or t 0 0) b
dark_past [] t e some = absurd (let none = ap length e in omega arith)
dark_past (x ∷ b) t (inl (blank, p)) some = let (dark, (left, next)) = dark_past b t p some in (dark, (left, inr (blank, next)))
dark_past (x ∷ b) t (inr (dark, e)) some =
    subst (λ s. (¬ IsBlank (slice_index_or s 0 0)) × StandsFirst (slice_index_or s 0 0) (x ∷ b)) (sym e) (dark, (b, inl refl))

-- it is one byte
pub first_same : (x y : ℕ) (b : List ℕ) → (¬ IsBlank x) → (¬ IsBlank y) → StandsFirst x b → StandsFirst y b → x ≡ y
first_same x y [] dark other (left, h) (more, k) = absurd (cc)
first_same x y (z ∷ b) dark other (left, inl e) (more, inl f) = cc
first_same x y (z ∷ b) dark other (left, inl e) (more, inr (blank, k)) = absurd (dark (let first : z ≡ x = cc in subst IsBlank first blank))
first_same x y (z ∷ b) dark other (left, inr (blank, h)) (more, inl f) = absurd (other (let first : z ≡ y = cc in subst IsBlank first blank))
first_same x y (z ∷ b) dark other (left, inr (blank, h)) (more, inr (white, k)) = first_same x y b dark other (left, h) (more, k)

-- of an object with a first key, and of markup
pub key_first : (k left b : List ℕ) → IsFirstKey k left b → StandsFirst 0x7B b ⊎ StandsFirst 0xEF b
key_first k left b (dark, inl (inside, after, first, key, colon)) = inl (inside, first)
key_first k left b (dark, inr (w, e, others)) = inr (0xBB ∷ 0xBF ∷ w, subst (λ s. StandsNext (0xEF ∷ []) s (0xBB ∷ 0xBF ∷ w)) (sym e) (inl refl))

at_front : (b : List ℕ) → slice_index b 0 ≡ 0xEF → StandsFirst 0xEF b
at_front [] e = absurd (cc)
at_front (y ∷ b) e = (b, inl (ap (λ z. z ∷ b) e))

space_blank : (x : ℕ) → IsXmlSpace x → IsBlank x
space_blank x (inl e) = inr (inl e)
space_blank x (inr (inl e)) = inr (inr (inl e))
space_blank x (inr (inr (inl e))) = inr (inr (inr e))
space_blank x (inr (inr (inr e))) = inl e

after_space : (b : List ℕ) (k : ℕ) → ((j : ℕ) → j < k → IsXmlSpace (slice_index b j)) → slice_index b k ≡ 0x3C → StandsFirst 0x3C b
after_space [] k spaces starts = absurd (cc)
after_space (y ∷ b) zero spaces starts = (b, inl (ap (λ z. z ∷ b) starts))
after_space (y ∷ b) (suc k) spaces starts =
    let (left, next) = after_space b k (λ j lt. spaces (suc j) (omega arith)) starts in
    (left, inr (space_blank y (spaces 0 (omega arith)), next))

pub markup_first : (b : List ℕ) → BeginsMarkup b → StandsFirst 0x3C b ⊎ StandsFirst 0xEF b
markup_first b (inl o) = inr (at_front b (o.reads 0 (omega arith)))
markup_first b (inr (k, low, spaces, starts)) = inl (after_space b k (λ j lt. spaces j (omega arith) lt) starts)
