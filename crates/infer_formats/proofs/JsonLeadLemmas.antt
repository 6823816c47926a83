-- With which byte JSON begins, and that it has a bracket.
use Rattle.infer_formats.proofs.Common.{[], ◌≡◌, ◌⊎◌, inl, inr, ℕ, zero, suc, ◌<◌, Bool, true, false, List, ◌∷◌, ◌++◌, refl, sym, subst, arith, ◌||◌, ◌==◌, slice_index, nat_tests, AfterBlanks, BeginsLines, BeginsText, IsJson, IsJsonLines, BeginsWithToken, UpToMark, blanks, same_line, text, IsBracket, IsPast, utf8_mark, ◌↔◌, IsTrue, cases_lt, OccursAt-begins, IsBlank, json_outline, StandsByPlace, accepts, stands, any_of, at_least, MayBecome, IsPastMark, length, ap, ◌∙◌, drop, ◌≤◌}
use Rattle.infer_formats.specs.Laws.{BeginsJson, HasBracket, BeginsAfterBlanks}
use Rattle.infer_formats.proofs.CompleteLemmas.{completes}
use Rattle.infer_formats.proofs.LineLemmas.{past_can, text_no_blank, text_begins}
use Rattle.infer_formats.proofs.OutlineLemmas.{begins_among, marked}
use Rattle.infer_sig.specs.Signature as fixed

-- one more byte of white space
pub one_more : (x : ℕ) (w : List ℕ) → IsBlank x → BeginsAfterBlanks w → BeginsAfterBlanks (x ∷ w)
one_more x w blank (k, all, is) = (suc k, each, is)
  where
    each : (j : ℕ) → j < suc k → IsBlank (slice_index (x ∷ w) j)
    each zero lt = blank
    each (suc j) lt = all j (omega arith)

pub at_once : (x : ℕ) (w : List ℕ) → IsBracket x → BeginsAfterBlanks (x ∷ w)
at_once x w is = (0, λ j lt. absurd (omega arith), is)

begins_text : (w : List ℕ) → AfterBlanks BeginsWithToken w → BeginsAfterBlanks w
begins_text [] h = absurd (h)
begins_text (x ∷ w) (inl o) = at_once x w o.0
begins_text (x ∷ w) (inr (blank, h)) = one_more x w blank (begins_text w h)

-- ---- lines

abbrev is_blank : ℕ → Bool
is_blank x = x == 0x20 || (x == 0x09 || (x == 0x0A || x == 0x0D))

blank_or : (x : ℕ) → IsBlank x ⊎ (¬ IsBlank x)
blank_or x = by_test (is_blank x) refl
  where
    by_test : (r : Bool) → is_blank x ≡ r → IsBlank x ⊎ (¬ IsBlank x)
    by_test true e = inl (grind (arith, nat_tests))
    by_test false e = inr (λ h. grind (arith, nat_tests))

bracket_or : (x : ℕ) → IsBracket x ⊎ (¬ IsBracket x)
bracket_or x = by_test (x == 0x5B || x == 0x7B) refl
  where
    by_test : (r : Bool) → (x == 0x5B || x == 0x7B) ≡ r → IsBracket x ⊎ (¬ IsBracket x)
    by_test true e = inl (grind (arith, nat_tests))
    by_test false e = inr (λ h. grind (arith, nat_tests))

past : (w : List ℕ) → (t : List ℕ) × IsPast w t
past [] = ([], refl)
past (x ∷ w) = elim (blank_or x) [
  | inl b ↦ let (t, p) = past w in (t, inl (b, p))
  | inr n ↦ (x ∷ w, inr (n, refl))
]

begins_past : (w t : List ℕ) (x : ℕ) (rest : List ℕ) → IsPast w t → t ≡ x ∷ rest → IsBracket x → BeginsAfterBlanks w
begins_past [] t x rest e same is = absurd (cc)
begins_past (y ∷ w) t x rest (inl (blank, p)) same is = one_more y w blank (begins_past w t x rest p same is)
begins_past (y ∷ w) t x rest (inr (none, e)) same is = let first : x ≡ y = cc in at_once y w (subst IsBracket first is)

begins_lines : (w : List ℕ) → BeginsLines w → BeginsAfterBlanks w
begins_lines w (can, single) = by_rest (past w).0 (past w).1
  where
    by_rest : (t : List ℕ) → IsPast w t → BeginsAfterBlanks w
    by_rest [] p = absurd (single ((past_can (text ∷ blanks ∷ []) w [] tt (text_no_blank (blanks ∷ [])) p).1 (completes (text ∷ blanks ∷ []) tt)))
    by_rest (x ∷ t) p = elim (bracket_or x) [
      | inl is ↦ begins_past w (x ∷ t) x t p refl is
      | inr none ↦ let (v, d) = (past_can (text ∷ same_line ∷ []) w (x ∷ t) tt (text_no_blank (same_line ∷ [])) p).0 can in absurd (text_begins x (same_line ∷ []) (t ++ v) none d)
    ]

-- ---- after a mark

module _ (P : List ℕ → Type 0) (begins : (w : List ℕ) → P w → BeginsAfterBlanks w) where
  past_mark : (b : List ℕ) → UpToMark P b → UpToMark BeginsAfterBlanks b
  past_mark b (inl h) = inl (begins b h)
  past_mark b (inr (w, e, h)) = inr (w, e, begins w h)

text_past : (b : List ℕ) → IsJson b → UpToMark BeginsAfterBlanks b
text_past = past_mark BeginsText (λ w t. begins_text w t.0)

lines_past : (b : List ℕ) → IsJsonLines b → UpToMark BeginsAfterBlanks b
lines_past = past_mark BeginsLines begins_lines

pub leads : (b : List ℕ) → UpToMark BeginsAfterBlanks b → BeginsJson b × HasBracket b
leads b (inl (k, all, is)) = (inr (k, all, is), (k, is))
leads b (inr (w, e, (k, all, is))) = (inl (OccursAt-begins b utf8_mark w e), subst HasBracket (sym e) (suc (suc (suc k)), is))

pub text_leads : (b : List ℕ) → IsJson b → BeginsJson b × HasBracket b
text_leads b h = leads b (text_past b h)

pub lines_lead : (b : List ℕ) → IsJsonLines b → BeginsJson b × HasBracket b
lines_lead b h = leads b (lines_past b h)

-- ---- what more bytes may make

pub text_may : (b : List ℕ) → MayBecome IsJson b → MayBecome (UpToMark BeginsAfterBlanks) b
text_may b (more, bytes, h) = (more, bytes, text_past (b ++ more) h)

pub lines_may : (b : List ℕ) → MayBecome IsJsonLines b → MayBecome (UpToMark BeginsAfterBlanks) b
lines_may b (more, bytes, h) = (more, bytes, lines_past (b ++ more) h)

-- what stands after white space is the bracket, or the first byte of a mark
bracket_first : (w t more : List ℕ) → IsPast w t → 1 ≤ length t → BeginsAfterBlanks (w ++ more) → IsBracket (slice_index t 0)
bracket_first [] t more e some begins = absurd (let none = ap length e in omega arith)
bracket_first (x ∷ w) t more (inl (blank, p)) some (zero, all, is) = absurd (grind arith)
bracket_first (x ∷ w) t more (inl (blank, p)) some (suc k, all, is) = bracket_first w t more p some (k, λ j lt. all (suc j) (omega arith), is)
bracket_first (x ∷ w) t more (inr (dark, e)) some (zero, all, is) = subst (λ s. IsBracket (slice_index s 0)) (sym e) is
bracket_first (x ∷ w) t more (inr (dark, e)) some (suc k, all, is) = absurd (dark (all 0 (omega arith)))

mark_first : (w t more u : List ℕ) → IsPast w t → 1 ≤ length t → w ++ more ≡ 0xEF ∷ u → slice_index t 0 ≡ 0xEF
mark_first [] t more u e some f = absurd (let none = ap length e in omega arith)
mark_first (x ∷ w) t more u (inl (blank, p)) some f = absurd (let first : x ≡ 0xEF = cc in grind arith)
mark_first (x ∷ w) t more u (inr (dark, e)) some f = let first : x ≡ 0xEF = cc in subst (λ s. slice_index s 0 ≡ 0xEF) (sym e) first

mark_begins : (u : List ℕ) → ¬ BeginsAfterBlanks (0xEF ∷ u)
mark_begins u (zero, all, is) = grind arith
mark_begins u (suc k, all, is) = let blank = all 0 (omega arith) in grind arith

pub first_reached : (b w t : List ℕ) → IsPastMark b w → IsPast w t → 1 ≤ length t → MayBecome (UpToMark BeginsAfterBlanks) b
    → IsBracket (slice_index t 0) ⊎ (slice_index t 0 ≡ 0xEF)
first_reached b w t (inl e) past some (more, bytes, inl begins) = absurd (mark_begins (0xBB ∷ 0xBF ∷ (w ++ more)) (subst (λ c. BeginsAfterBlanks (c ++ more)) e begins))
first_reached b w t (inl e) past some (more, bytes, inr (u, f, begins)) =
    let same : w ++ more ≡ u = ap (drop 3) (sym (ap (λ c. c ++ more) e) ∙ f) in
    inl (bracket_first w t more past some (subst BeginsAfterBlanks (sym same) begins))
first_reached b w t (inr (e, lacks)) past some (more, bytes, inl begins) =
    inl (bracket_first w t more past some (subst (λ c. BeginsAfterBlanks (c ++ more)) e begins))
first_reached b w t (inr (e, lacks)) past some (more, bytes, inr (u, f, begins)) =
    inr (mark_first w t more (0xBB ∷ 0xBF ∷ u) past some (sym (ap (λ c. c ++ more) e) ∙ f))

abbrev json_bytes : List ℕ
json_bytes = 0x09 ∷ 0x0A ∷ 0x0D ∷ 0x20 ∷ 0x5B ∷ 0x7B ∷ []

-- so the byte with which a buffer begins is one of six, or it begins with a byte order mark
module _ (by_place : (place : ℕ) (t buf : List ℕ) → IsTrue (stands place t buf) ↔ StandsByPlace place t buf) (b : List ℕ) where
  pub json_begins : BeginsJson b → IsTrue (accepts json_outline b)
  json_begins (inl o) = marked by_place b (at_least 1 (fixed.byte 0 (any_of json_bytes) ∷ [])) o
  json_begins (inr (k, spaces, begins)) =
      let first : IsBlank (slice_index b 0) ⊎ IsBracket (slice_index b 0) = elim (cases_lt 0 k) [
        | inl lt ↦ inl (spaces 0 lt)
        | inr le ↦ inr (let same : k ≡ 0 = omega arith in subst (λ i. IsBracket (slice_index b i)) same begins)
      ] in
      begins_among by_place b json_bytes (grind arith) (grind (arith, nat_tests))
