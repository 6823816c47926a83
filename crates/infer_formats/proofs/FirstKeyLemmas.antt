-- Objects by their first key: what the readers tell, what more bytes keep and may bring, and what a computation says.
use Rattle.infer_formats.proofs.Common.{[], ◌≡◌, ◌⊎◌, inl, inr, ℕ, ◌==◌, ◌||◌, ◌↔◌, ◌∙◌, Bool, true, false, IsTrue, MatchOption, Option, None, Some, List, ◌∷◌, ◌++◌, append_assoc, is_some, if◌then◌else◌, length, drop, take, take_all, ◌-◌, ◌≤◌, slice_index, refl, sym, subst, ap, arith, nat_tests, MayBecome, IsBlank, IsPast, IsPastMark, UpToMark, StandsByPlace, accepts, any_of, at_least, OccursAt-begins, stands, utf8_mark}
use Rattle.std.proofs.lemmas.List.{append_cancel_left}
use denote.Ref.{Bor}
use Rattle.infer_formats.specs.FirstKey.{BeginsByKey, BeginsByValue, HasFirstKey, HasFirstKeyWith, StandsNext, in_quotes}
use Rattle.infer_formats.specs.Laws.{BeginsAfterBlanks, HasBracket}
use Rattle.infer_formats.specs.Outline.{object_outline}
use Rattle.infer_formats.proofs.OutlineLemmas.{begins_among, marked}
use Rattle.infer_sig.specs.Signature.{byte}
use Rattle.infer_formats.proofs.JsonLeadLemmas.{at_once, leads, one_more}
use Rattle.infer_sig.proofs.KnownLemmas.{Known, proved, refuted, unknown}

-- what follows is told: nothing, or just this
abbrev pub Told : (List ℕ → Type 0) → Option (List ℕ) → Type 0
Told P None = (left : List ℕ) → ¬ P left
Told P (Some rest) = (left : List ℕ) → P left ↔ (left ≡ rest)

-- ---- white space, and a text after it

pub next_past : (x : ℕ) (t s w left : List ℕ) → ¬ IsBlank x → IsPast s w → StandsNext (x ∷ t) s left ↔ (w ≡ x ∷ (t ++ left))
next_past x t [] w left dark e = (λ h. absurd cc, λ f. absurd (cc))
next_past x t (y ∷ s) w left dark (inl (blank, p)) = (
  λ h. elim h [
    | inl same ↦ absurd (dark (let first : y ≡ x = cc in subst IsBlank first blank))
    | inr (_, later) ↦ (next_past x t s w left dark p).0 later
  ],
  λ e. inr (blank, (next_past x t s w left dark p).1 e),
)
next_past x t (y ∷ s) w left dark (inr (none, e)) = (
  λ h. elim h [
    | inl same ↦ e ∙ same
    | inr (blank, _) ↦ absurd (none blank)
  ],
  λ f. inl (sym e ∙ f),
)

-- the first byte of the text, and then the others
pub next_parted : (x : ℕ) (t s left : List ℕ) → StandsNext (x ∷ t) s left ↔ StandsNext (x ∷ []) s (t ++ left)
next_parted x t [] left = (λ h. h, λ h. h)
next_parted x t (y ∷ s) left = (
  λ h. elim h [ inl e ↦ inl e | inr (blank, later) ↦ inr (blank, (next_parted x t s left).0 later) ],
  λ h. elim h [ inl e ↦ inl e | inr (blank, later) ↦ inr (blank, (next_parted x t s left).1 later) ],
)

pub next_lasts : (t s left more : List ℕ) → StandsNext t s left → StandsNext t (s ++ more) (left ++ more)
next_lasts t [] left more e = at_end more (ap (λ u. u ++ more) e ∙ append_assoc t left more)
  where
    at_end : (w : List ℕ) → w ≡ t ++ (left ++ more) → StandsNext t w (left ++ more)
    at_end [] f = f
    at_end (x ∷ w) f = inl f
next_lasts t (x ∷ s) left more (inl e) = inl (ap (λ u. u ++ more) e ∙ append_assoc t left more)
next_lasts t (x ∷ s) left more (inr (blank, later)) = inr (blank, next_lasts t s left more later)

-- ---- a key, and its value

module _ (k : List ℕ) where
  pub key_lasts : (w left more : List ℕ) → BeginsByKey k w left → BeginsByKey k (w ++ more) (left ++ more)
  key_lasts w left more (inside, after, first, key, colon) =
      (inside ++ more, after ++ more, next_lasts (0x7B ∷ []) w inside more first, next_lasts (in_quotes k) inside after more key, next_lasts (0x3A ∷ []) after left more colon)

  no_key : (x : ℕ) (u left : List ℕ) → x ≡ 0xEF → ¬ BeginsByKey k (x ∷ u) left
  no_key x u left mark (inside, after, inl e, key, colon) = let first : x ≡ 0x7B = cc in absurd (omega arith)
  no_key x u left mark (inside, after, inr (blank, later), key, colon) = absurd (grind arith)

  pub no_mark : (u left : List ℕ) → ¬ BeginsByKey k (0xEF ∷ u) left
  no_mark u left = no_key 0xEF u left refl

  bracket_leads : (w inside : List ℕ) → StandsNext (0x7B ∷ []) w inside → BeginsAfterBlanks w
  bracket_leads [] inside e = absurd (cc)
  bracket_leads (x ∷ w) inside (inl e) = at_once x w (inr (let first : x ≡ 0x7B = cc in first))
  bracket_leads (x ∷ w) inside (inr (blank, later)) = one_more x w blank (bracket_leads w inside later)

  pub key_leads : (w left : List ℕ) → BeginsByKey k w left → BeginsAfterBlanks w
  key_leads w left (inside, after, first, key, colon) = bracket_leads w inside first

-- ---- after a mark

module _ (P : List ℕ → Type 0) where
  pub up_to_mark : (b w : List ℕ) → IsPastMark b w → ((u : List ℕ) → ¬ P (0xEF ∷ u)) → UpToMark P b ↔ P w
  up_to_mark b w (inl e) none = (
    λ h. elim h [
      | inl p ↦ absurd (none (0xBB ∷ 0xBF ∷ w) (subst P e p))
      | inr (u, f, p) ↦ let same : u ≡ w = ap (drop 3) (sym f ∙ e) in subst P same p
    ],
    λ p. inr (w, e, p),
  )
  up_to_mark b w (inr (e, lacks)) none = (
    λ h. elim h [
      | inl p ↦ subst P e p
      | inr (u, f, p) ↦ absurd (lacks u f)
    ],
    λ p. inl (subst P (sym e) p),
  )

  mark_lasts : (b more : List ℕ) → ((w : List ℕ) → P w → P (w ++ more)) → UpToMark P b → UpToMark P (b ++ more)
  mark_lasts b more lasts (inl p) = inl (lasts b p)
  mark_lasts b more lasts (inr (w, e, p)) = inr (w ++ more, ap (λ u. u ++ more) e, lasts w p)

  mark_leads : (b : List ℕ) → ((w : List ℕ) → P w → BeginsAfterBlanks w) → UpToMark P b → UpToMark BeginsAfterBlanks b
  mark_leads b begins (inl p) = inl (begins b p)
  mark_leads b begins (inr (w, e, p)) = inr (w, e, begins w p)

abbrev pub ByKey : List ℕ → List ℕ → Type 0
ByKey k w = (left : List ℕ) × BeginsByKey k w left

module _ (k : List ℕ) where
  pub no_mark_key : (u : List ℕ) → ¬ ByKey k (0xEF ∷ u)
  no_mark_key u (left, h) = no_mark k u left h

  pub no_mark_value : (v u : List ℕ) → ¬ BeginsByValue k v (0xEF ∷ u)
  no_mark_value v u (value, left, h, text) = no_mark k u value h

  pub first_key-lasts : (b more : List ℕ) → HasFirstKey k b → HasFirstKey k (b ++ more)
  first_key-lasts b more h = mark_lasts (ByKey k) b more (λ w (left, key). (left ++ more, key_lasts k w left more key)) h

  pub first_key_with-lasts : (v b more : List ℕ) → HasFirstKeyWith k v b → HasFirstKeyWith k v (b ++ more)
  first_key_with-lasts v b more h =
      mark_lasts (BeginsByValue k v) b more (λ w (value, left, key, text). (value ++ more, left ++ more, key_lasts k w value more key, next_lasts (in_quotes v) value left more text)) h

  key_past : (b : List ℕ) → HasFirstKey k b → UpToMark BeginsAfterBlanks b
  key_past b h = mark_leads (ByKey k) b (λ w (left, key). key_leads k w left key) h

  value_past : (v b : List ℕ) → HasFirstKeyWith k v b → UpToMark BeginsAfterBlanks b
  value_past v b h = mark_leads (BeginsByValue k v) b (λ w (value, left, key, text). key_leads k w value key) h

pub key_may : (k b : List ℕ) → MayBecome (HasFirstKey k) b → MayBecome (UpToMark BeginsAfterBlanks) b
key_may k b (more, bytes, h) = (more, bytes, key_past k (b ++ more) h)

pub value_may : (k v b : List ℕ) → MayBecome (HasFirstKeyWith k v) b → MayBecome (UpToMark BeginsAfterBlanks) b
value_may k v b (more, bytes, h) = (more, bytes, value_past k v (b ++ more) h)

pub key_has : (k b : List ℕ) → HasFirstKey k b → HasBracket b
key_has k b h = (leads b (key_past k b h)).1

pub value_has : (k v b : List ℕ) → HasFirstKeyWith k v b → HasBracket b
value_has k v b h = (leads b (value_past k v b h)).1

first_byte : (w inside : List ℕ) → StandsNext (0x7B ∷ []) w inside → IsBlank (slice_index w 0) ⊎ (slice_index w 0 ≡ 0x7B)
first_byte [] inside e = absurd (cc)
first_byte (x ∷ w) inside (inl e) = inr (let first : x ≡ 0x7B = cc in first)
first_byte (x ∷ w) inside (inr (blank, later)) = inl blank

abbrev object_bytes : List ℕ
object_bytes = 0x09 ∷ 0x0A ∷ 0x0D ∷ 0x20 ∷ 0x7B ∷ []

module _ (by_place : (place : ℕ) (t buf : List ℕ) → IsTrue (stands place t buf) ↔ StandsByPlace place t buf) (b : List ℕ) where
  opens : (inside : List ℕ) → StandsNext (0x7B ∷ []) b inside → IsTrue (accepts object_outline b)
  opens inside h = let first = first_byte b inside h in begins_among by_place b object_bytes (grind arith) (grind (arith, nat_tests))

  after_mark : (w : List ℕ) → b ≡ 0xEF ∷ 0xBB ∷ 0xBF ∷ w → IsTrue (accepts object_outline b)
  after_mark w e = marked by_place b (at_least 1 (byte 0 (any_of object_bytes) ∷ [])) (OccursAt-begins b utf8_mark w e)

  pub key_lines : (k : List ℕ) → HasFirstKey k b → IsTrue (accepts object_outline b)
  key_lines k (inl (left, (inside, after, first, key, colon))) = opens inside first
  key_lines k (inr (w, e, others)) = after_mark w e

  pub value_lines : (k v : List ℕ) → HasFirstKeyWith k v b → IsTrue (accepts object_outline b)
  value_lines k v (inl (value, left, (inside, after, first, key, colon), text)) = opens inside first
  value_lines k v (inr (w, e, others)) = after_mark w e

-- ---- what the readers tell

module _ (P Q : List ℕ → Type 0) (same : (left : List ℕ) → Q left ↔ P left) where
  pub told_same : (o : Option (List ℕ)) → Told P o → Told Q o
  told_same None none = λ left q. none left ((same left).0 q)
  told_same (Some rest) just = λ left. (λ q. (just left).0 ((same left).0 q), λ e. (same left).1 ((just left).1 e))

abbrev pub and_then : Option (List ℕ) → (List ℕ → Option (List ℕ)) → Option (List ℕ)
and_then None f = None
and_then (Some rest) f = f rest

module _ (P : List ℕ → Type 0) (Q : List ℕ → List ℕ → Type 0) where
  abbrev pub Both : List ℕ → Type 0
  Both left = (middle : List ℕ) × P middle × Q middle left

  told_after : (m : List ℕ) → ((left : List ℕ) → P left ↔ (left ≡ m)) → (r : Option (List ℕ)) → Told (Q m) r → Told Both r
  told_after m just None none = λ left (n, p, q). none left (subst (λ u. Q u left) ((just n).0 p) q)
  told_after m just (Some rest) is = λ left. (
    λ (n, p, q). (is left).0 (subst (λ u. Q u left) ((just n).0 p) q),
    λ e. (m, (just m).1 refl, (is left).1 e),
  )

  pub told_then : (o : Option (List ℕ)) (f : List ℕ → Option (List ℕ)) → Told P o → ((m : List ℕ) → Told (Q m) (f m)) → Told Both (and_then o f)
  told_then None f none each = λ left (m, p, q). none m p
  told_then (Some m) f just each = told_after m just (f m) (each m)

-- ---- what a computation says

abbrev strip : List ℕ → List ℕ → Option (List ℕ)
strip [] s = Some s
strip (x ∷ t) [] = None
strip (x ∷ t) (y ∷ s) = if y == x then strip t s else None

strip_says : (t s : List ℕ) → Told (λ left. s ≡ t ++ left) (strip t s)
strip_says [] s = λ left. (λ e. sym e, λ e. sym e)
strip_says (x ∷ t) [] = λ left e. absurd (cc)
strip_says (x ∷ t) (y ∷ s) = by_test (strip_says t s) (y == x) refl
  where
    further : y ≡ x → (left : List ℕ) → (y ∷ s ≡ x ∷ (t ++ left)) ↔ (s ≡ t ++ left)
    further first left = (λ e. ap (drop 1) e, λ e. let front : y ∷ s ≡ x ∷ s = ap (λ z. z ∷ s) first in front ∙ ap (λ u. x ∷ u) e)

    by_test : Told (λ left. s ≡ t ++ left) (strip t s) → (r : Bool) → (y == x) ≡ r → Told (λ left. y ∷ s ≡ x ∷ (t ++ left)) (if r then strip t s else None)
    by_test further_on true e =
        told_same (λ left. s ≡ t ++ left) (λ left. y ∷ s ≡ x ∷ (t ++ left)) (further (grind (arith, nat_tests))) (strip t s) further_on
    by_test further_on false e = λ left same. let first : y ≡ x = cc in absurd (grind (arith, nat_tests))

abbrev is_blank : ℕ → Bool
is_blank x = x == 0x20 || (x == 0x09 || (x == 0x0A || x == 0x0D))

abbrev past : List ℕ → List ℕ
past [] = []
past (x ∷ s) = if is_blank x then past s else x ∷ s

is_past : (s : List ℕ) → IsPast s (past s)
is_past [] = refl
is_past (x ∷ s) = by_test (is_past s) (is_blank x) refl
  where
    by_test : IsPast s (past s) → (r : Bool) → is_blank x ≡ r → IsPast (x ∷ s) (if r then past s else x ∷ s)
    by_test later true e = inl (grind (arith, nat_tests), later)
    by_test later false e = inr (λ h. grind (arith, nat_tests), refl)

pub dark_quote : ¬ IsBlank 0x22
dark_quote h = grind arith

pub next_says : (x : ℕ) (t s : List ℕ) → ¬ IsBlank x → Told (StandsNext (x ∷ t) s) (strip (x ∷ t) (past s))
next_says x t s dark =
    told_same (λ left. past s ≡ x ∷ (t ++ left)) (StandsNext (x ∷ t) s) (λ left. next_past x t s (past s) left dark (is_past s)) (strip (x ∷ t) (past s)) (strip_says (x ∷ t) (past s))

abbrev after_key : List ℕ → List ℕ → Option (List ℕ)
after_key k w =
    and_then (strip (0x7B ∷ []) (past w)) (λ inside. and_then (strip (in_quotes k) (past inside)) (λ after. strip (0x3A ∷ []) (past after)))

-- one thing after the other, as the definition has it
pub key_parts : (k w left : List ℕ)
    → BeginsByKey k w left
    ↔ Both (StandsNext (0x7B ∷ []) w) (λ inside. Both (StandsNext (in_quotes k) inside) (λ after. StandsNext (0x3A ∷ []) after)) left
key_parts k w left = (
  λ (inside, after, first, key, colon). (inside, first, (after, key, colon)),
  λ (inside, first, (after, key, colon)). (inside, after, first, key, colon),
)

pub key_says : (k w : List ℕ) → Told (BeginsByKey k w) (after_key k w)
key_says k w =
    told_same _ (BeginsByKey k w) (key_parts k w) (after_key k w)
    (told_then (StandsNext (0x7B ∷ []) w) _ (strip (0x7B ∷ []) (past w)) _ (next_says 0x7B [] w (λ h. grind arith))
    (λ inside.
    told_then (StandsNext (in_quotes k) inside) _ (strip (in_quotes k) (past inside)) _ (next_says 0x22 (k ++ 0x22 ∷ []) inside dark_quote)
    (λ after. next_says 0x3A [] after (λ h. grind arith))))

abbrev known_told : (P : List ℕ → Type 0) (o : Option (List ℕ)) → Told P o → Known ((left : List ℕ) × P left)
known_told P None none = refuted (λ (left, p). none left p)
known_told P (Some rest) just = proved (rest, (just rest).1 refl)

abbrev unmarked : List ℕ → List ℕ
unmarked b = elim (strip utf8_mark b) [ None ↦ b | Some w ↦ w ]

pub is_unmarked : (b : List ℕ) → IsPastMark b (unmarked b)
is_unmarked b = by_strip (strip utf8_mark b) (strip_says utf8_mark b)
  where
    by_strip : (o : Option (List ℕ)) → Told (λ left. b ≡ utf8_mark ++ left) o → IsPastMark b (elim o [ None ↦ b | Some w ↦ w ])
    by_strip None none = inr (refl, λ u e. none u e)
    by_strip (Some w) just = inl ((just w).1 refl)

abbrev known_same : {P Q : Type 0} → Q ↔ P → Known P → Known Q
known_same same (proved p) = proved (same.1 p)
known_same same (refuted h) = refuted (λ q. h (same.0 q))
known_same same unknown = unknown

pub value_parts : (k v w : List ℕ) → BeginsByValue k v w ↔ ((left : List ℕ) × Both (BeginsByKey k w) (StandsNext (in_quotes v)) left)
value_parts k v w = (λ (value, left, key, text). (left, (value, key, text)), λ (left, (value, key, text)). (value, left, key, text))

module _ (b : List ℕ) where
  abbrev pub known_key : (k : List ℕ) → Known (HasFirstKey k b)
  known_key k =
      known_same (up_to_mark (ByKey k) b (unmarked b) (is_unmarked b) (no_mark_key k)) (known_told (BeginsByKey k (unmarked b)) (after_key k (unmarked b)) (key_says k (unmarked b)))

  abbrev pub known_value : (k v : List ℕ) → Known (HasFirstKeyWith k v b)
  known_value k v =
      known_same (up_to_mark (BeginsByValue k v) b (unmarked b) (is_unmarked b) (no_mark_value k v))
      (known_same (value_parts k v (unmarked b))
      (known_told (Both (BeginsByKey k (unmarked b)) (StandsNext (in_quotes v))) (and_then (after_key k (unmarked b)) (λ value. strip (in_quotes v) (past value)))
      (told_then (BeginsByKey k (unmarked b)) (StandsNext (in_quotes v)) (after_key k (unmarked b)) (λ value. strip (in_quotes v) (past value)) (key_says k (unmarked b))
      (λ value. next_says 0x22 (v ++ 0x22 ∷ []) value dark_quote))))

-- ---- what the code reads

module _ (x : ℕ) (s w : List ℕ) (dark : ¬ IsBlank x) (p : IsPast s w) where
  pub byte_here : 1 ≤ length w → slice_index w 0 ≡ x → (left : List ℕ) → StandsNext (x ∷ []) s left ↔ (left ≡ take (length w - 1) (drop 1 w))
  byte_here some first left = by w refl
    where
      by : (v : List ℕ) → v ≡ w → StandsNext (x ∷ []) s left ↔ (left ≡ take (length w - 1) (drop 1 w))
      by [] e = absurd (let none = ap length e in omega arith)
      by (y ∷ v) e =
          let its : y ≡ x = subst (λ u. slice_index u 0 ≡ x) (sym e) first in
          let rest : take (length w - 1) (drop 1 w) ≡ v =
          let many : length (y ∷ v) - 1 ≡ length v = omega arith in
          subst (λ u. take (length u - 1) (drop 1 u) ≡ v) e (subst (λ n. take n v ≡ v) (sym many) (take_all (length v) v (omega arith))) in
          let whole : w ≡ x ∷ v = sym e ∙ ap (λ z. z ∷ v) its in (
            λ h. ap (drop 1) (sym ((next_past x [] s w left dark p).0 h) ∙ whole) ∙ sym rest,
            λ same. (next_past x [] s w left dark p).1 (whole ∙ ap (λ u. x ∷ u) (sym (same ∙ rest))),
          )

  pub byte_elsewhere : (left : List ℕ) → StandsNext (x ∷ []) s left → (1 ≤ length w) × (slice_index w 0 ≡ x)
  byte_elsewhere left h =
      let e = (next_past x [] s w left dark p).0 h in
      (let long = ap length e in omega arith, ap (λ u. slice_index u 0) e)

pub none_quoted : (t s : List ℕ) → ((left : List ℕ) → ¬ StandsNext (0x22 ∷ []) s left) → (left : List ℕ) → ¬ StandsNext (in_quotes t) s left
none_quoted t s none left h = none ((t ++ 0x22 ∷ []) ++ left) ((next_parted 0x22 (t ++ 0x22 ∷ []) s left).0 h)

module _ (t s inside : List ℕ) (just : (left : List ℕ) → StandsNext (0x22 ∷ []) s left ↔ (left ≡ inside)) where
  pub quoted_inside : (o : Option (Bor (List ℕ))) → MatchOption o ((left : List ℕ) → ¬ (inside ≡ t ++ 0x22 ∷ left)) (λ rest. inside ≡ t ++ 0x22 ∷ rest.now)
      → MatchOption o ((left : List ℕ) → ¬ StandsNext (in_quotes t) s left) (λ rest. (left : List ℕ) → StandsNext (in_quotes t) s left ↔ (left ≡ rest.now))
  quoted_inside None none = λ left h.
      none left (sym ((just ((t ++ 0x22 ∷ []) ++ left)).0 ((next_parted 0x22 (t ++ 0x22 ∷ []) s left).0 h)) ∙ append_assoc t (0x22 ∷ []) left)
  quoted_inside (Some rest) is = λ left. (
    λ h.
        ap (drop 1)
        (append_cancel_left t (0x22 ∷ left) (0x22 ∷ rest.now)
        (sym (append_assoc t (0x22 ∷ []) left) ∙ (just ((t ++ 0x22 ∷ []) ++ left)).0 ((next_parted 0x22 (t ++ 0x22 ∷ []) s left).0 h) ∙ is)),
    λ e.
        (next_parted 0x22 (t ++ 0x22 ∷ []) s left).1
        ((just ((t ++ 0x22 ∷ []) ++ left)).1 (append_assoc t (0x22 ∷ []) left ∙ ap (λ u. t ++ 0x22 ∷ u) e ∙ sym is)),
  )

pub closed : (t s rest : List ℕ) → s ≡ t ++ rest → (o : Option (Bor (List ℕ)))
    → MatchOption o ((left : List ℕ) → ¬ (rest ≡ 0x22 ∷ left)) (λ x. rest ≡ 0x22 ∷ x.now)
    → MatchOption o ((left : List ℕ) → ¬ (s ≡ t ++ 0x22 ∷ left)) (λ x. s ≡ t ++ 0x22 ∷ x.now)
closed t s rest same None none = λ left e. none left (append_cancel_left t rest (0x22 ∷ left) (sym same ∙ e))
closed t s rest same (Some x) is = same ∙ ap (λ u. t ++ u) is

module _ (k w inside after : List ℕ) (first : (left : List ℕ) → StandsNext (0x7B ∷ []) w left ↔ (left ≡ inside))
    (key : (left : List ℕ) → StandsNext (in_quotes k) inside left ↔ (left ≡ after)) where
  key_same : (left : List ℕ) → BeginsByKey k w left ↔ StandsNext (0x3A ∷ []) after left
  key_same left = (
    λ (i, d, f, g, h).
        let its = (first i).0 f in
        let one : d ≡ after = (key d).0 (subst (λ u. StandsNext (in_quotes k) u d) its g) in
        subst (λ u. StandsNext (0x3A ∷ []) u left) one h,
    λ h. (inside, after, (first inside).1 refl, (key after).1 refl, h),
  )

  pub key_read : (o : Option (Bor (List ℕ)))
      → MatchOption o ((left : List ℕ) → ¬ StandsNext (0x3A ∷ []) after left) (λ rest. (left : List ℕ) → StandsNext (0x3A ∷ []) after left ↔ (left ≡ rest.now))
      → MatchOption o ((left : List ℕ) → ¬ BeginsByKey k w left) (λ rest. (left : List ℕ) → BeginsByKey k w left ↔ (left ≡ rest.now))
  key_read None none = λ left h. none left ((key_same left).0 h)
  key_read (Some rest) is = λ left. (λ h. (is left).0 ((key_same left).0 h), λ e. (key_same left).1 ((is left).1 e))

-- something is left
pub some_left : (P : List ℕ → Type 0) (o : Option (Bor (List ℕ))) → MatchOption o ((left : List ℕ) → ¬ P left) (λ rest. (left : List ℕ) → P left ↔ (left ≡ rest.now))
    → IsTrue (is_some o) ↔ ((left : List ℕ) × P left)
some_left P None none = (λ is. absurd (cc), λ (left, h). absurd (none left h))
some_left P (Some rest) just = (λ is. (rest.now, (just rest.now).1 refl), λ h. refl)

pub value_read : (k v w rest : List ℕ) → ((left : List ℕ) → BeginsByKey k w left ↔ (left ≡ rest)) → ((left : List ℕ) × StandsNext (in_quotes v) rest left) ↔ BeginsByValue k v w
value_read k v w rest just = (
  λ (left, h). (rest, left, (just rest).1 refl, h),
  λ (value, left, key, h). (left, subst (λ u. StandsNext (in_quotes v) u left) ((just value).0 key) h),
)
