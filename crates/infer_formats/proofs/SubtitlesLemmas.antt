-- Subtitles: what more bytes keep and may make, and the bytes that each file has.
use Rattle.infer_formats.proofs.Common.{◌≡◌, ℕ, ◌+◌, ◌<◌, ◌≤◌, ◌⊎◌, OccursAt, List, get_or, arith, AreDigits, EndsLine, IsDigit, inl, inr, ◌++◌, length, subst, ◌∙◌, cases_lt, MayBecome, grown_agrees, IsCue, IsPairAt, IsSubRip, IsTime, ◌∷◌, slice_index, OccursAt-append, ◌↔◌, IsTrue, [], lines, subrip, MayBeSubRip, StandsByPlace, accepts, between, stands, at_least, add-zero, GoesOn, MayBeginCue, codes, refl, allows, and_from, any_of, has_part, lt-ltb, nat_lt, sym}
use Rattle.infer_sig.specs.Signature as fixed
use Rattle.infer_sig.specs.Signature.{byte}
use Rattle.infer_formats.proofs.GrowthLemmas.{there, carried, kept}
use Rattle.infer_formats.proofs.OpenLemmas.{known}
use Rattle.infer_formats.proofs.OutlineLemmas.{in_range, marked, marked_line, other, two}
use Rattle.infer_formats.proofs.TestLemmas.{only_first}
use Rattle.infer_sig.proofs.KnownLemmas.{Known, at_most, both, either, needs, proved, same, takes, ◌>>=◌}
use Rattle.infer_sig.proofs.OccurrenceLemmas.{ByPlace, occurs}

pub cue_by_count : (b : List ℕ) (p n m t : ℕ) → n ≤ 10 → AreDigits b p n → (n < 10 → ¬ IsDigit (get_or b (p + n) 0))
    → m ≤ 9 → AreDigits b p m → EndsLine b (p + m) t → m ≡ n
cue_by_count b p n m t few digits ends most others line =
    let shorter = digits m in
    let longer = others n in
    grind arith

-- the next line is near
pub line_after : (b : List ℕ) (e t : ℕ) → EndsLine b e t → t ≤ e + 2
line_after b e t f = grind arith

-- ---- a buffer that grows

module _ (b more : List ℕ) where
  pub digit : (p : ℕ) → IsDigit (slice_index b p) → IsDigit (slice_index (b ++ more) p)
  digit p d = carried b more IsDigit p (there b p (let low = d.0 in omega arith)) d

  is_byte : (x p : ℕ) → 1 ≤ x → slice_index b p ≡ x → slice_index (b ++ more) p ≡ x
  is_byte x p some e = kept b more p (there b p (omega arith)) ∙ e

  pair : (p : ℕ) → IsPairAt b p → IsPairAt (b ++ more) p
  pair p (d, e) = (digit p d, digit (p + 1) e)

  pub time : (t : ℕ) → IsTime b t → IsTime (b ++ more) t
  time t h = record {
    hours = pair t h.hours;
    to_minutes = is_byte 0x3A (t + 2) (omega arith) h.to_minutes;
    minutes = pair (t + 3) h.minutes;
    to_seconds = is_byte 0x3A (t + 5) (omega arith) h.to_seconds;
    seconds = pair (t + 6) h.seconds;
    to_thousandths = elim h.to_thousandths [
      | inl e ↦ inl (is_byte 0x2C (t + 8) (omega arith) e)
      | inr e ↦ inr (is_byte 0x2E (t + 8) (omega arith) e)
    ];
    thousandths = (pair (t + 9) h.thousandths.0, digit (t + 11) h.thousandths.1);
  }

  pub line_end : (e t : ℕ) → EndsLine b e t → EndsLine (b ++ more) e t
  line_end e t (inl (x, s)) = inl (is_byte 0x0A e (omega arith) x, s)
  line_end e t (inr (x, y, s)) = inr (is_byte 0x0D e (omega arith) x, is_byte 0x0A (e + 1) (omega arith) y, s)

  cue : (p : ℕ) → IsCue b p → IsCue (b ++ more) p
  cue p (n, t, many, digits, ends, (from, arrow, to)) =
      (n, t, many, λ k lt. digit (p + k) (digits k lt), line_end (p + n) t ends, (time t from, OccursAt-append b more _ (t + 12) arrow, time (t + 17) to))

  pub subrip-lasts : IsSubRip b → IsSubRip (b ++ more)
  subrip-lasts (inl c) = inl (cue 0 c)
  subrip-lasts (inr (o, c)) = inr (OccursAt-append b more _ 0 o, cue 3 c)

-- ---- what more bytes may make

-- a cue begins with a digit, and after that the digits or the line go on
cue_begins : (b : List ℕ) (p : ℕ) → IsCue b p → IsDigit (slice_index b p) × GoesOn (slice_index b (p + 1))
cue_begins b p (n, t, (some, few), digits, line, span) = (
  rw add-zero at (digits 0 some),
  elim (cases_lt 1 n) [
    | inl l ↦ inl (digits 1 l)
    | inr le ↦ let one : n ≡ 1 = omega arith in
        subst (λ k. GoesOn (slice_index b (p + k))) one (elim line [ inl (lf, at) ↦ inr (inl lf) | inr (cr, lf, at) ↦ inr (inr cr) ])
  ],
)

known_cue : (b more : List ℕ) (p : ℕ) → IsCue (b ++ more) p → MayBeginCue b p
known_cue b more p cue =
    let begins = cue_begins (b ++ more) p cue in (known b more IsDigit p begins.0, known b more GoesOn (p + 1) begins.1)

pub subrip_known : (b : List ℕ) → MayBecome IsSubRip b → MayBeSubRip b
subrip_known b (more, bytes, inl cue) = inl (known_cue b more 0 cue)
subrip_known b (more, bytes, inr (mark, cue)) = inr (grown_agrees b more _ 0 mark, known_cue b more 3 cue)

-- ---- the bytes that each has

-- a digit and another, or the end of the line
abbrev numbered_line : fixed.Alternative
numbered_line = at_least 2 (byte 0 (between 0x30 0x39) ∷ byte 1 (between 0x30 0x39) ∷ [])

abbrev ended_line : fixed.Alternative
ended_line = at_least 2 (byte 0 (between 0x30 0x39) ∷ byte 1 (any_of (0x0A ∷ 0x0D ∷ [])) ∷ [])

module _ (by_place : (place : ℕ) (t buf : List ℕ) → IsTrue (stands place t buf) ↔ StandsByPlace place t buf) (b : List ℕ) where
  pub subrip_lines : IsSubRip b → IsTrue (accepts (lines subrip) b)
  subrip_lines (inl cue) =
      let (first, next) = cue_begins b 0 cue in
      let lt : 0 < length b = there b 0 (let low = first.0 in omega arith) in
      let here = in_range by_place b 0 0x30 0x39 lt first.0 first.1 in
      elim next [
        | inl digit ↦
            let within : 1 < length b = there b 1 (let low = digit.0 in omega arith) in
            two by_place b 2 (byte 0 (between 0x30 0x39)) (byte 1 (between 0x30 0x39)) (ended_line ∷ marked_line ∷ []) (omega arith) here
            (in_range by_place b 1 0x30 0x39 within digit.0 digit.1)
        | inr (inl e) ↦ ends 0x0A here e (omega arith) refl
        | inr (inr e) ↦ ends 0x0D here e (omega arith) refl
      ]
    where
      ends : (x : ℕ) → IsTrue (has_part b (byte 0 (between 0x30 0x39))) → slice_index b 1 ≡ x → 1 ≤ x → IsTrue (allows (any_of (0x0A ∷ 0x0D ∷ [])) x)
          → IsTrue (accepts (lines subrip) b)
      ends x here e some is =
          let within : 1 < length b = there b 1 (omega arith) in
          other by_place b numbered_line (ended_line ∷ marked_line ∷ [])
          (two by_place b 2 (byte 0 (between 0x30 0x39)) (byte 1 (any_of (0x0A ∷ 0x0D ∷ []))) (marked_line ∷ []) (omega arith) here
          (and_from (nat_lt 1 (length b)) _ (lt-ltb 1 (length b) within) (subst (λ y. IsTrue (allows (any_of (0x0A ∷ 0x0D ∷ [])) y)) (sym e) is)))
  subrip_lines (inr (o, cue)) = other by_place b numbered_line (ended_line ∷ marked_line ∷ []) (marked by_place b ended_line o)

-- ---- what a computation says of subtitles

module _ (by_place : ByPlace) (b : List ℕ) where
  abbrev known_digit : (p : ℕ) → Known (IsDigit (slice_index b p))
  known_digit p = both (at_most 0x30 (slice_index b p)) (at_most (slice_index b p) 0x39)

  abbrev known_pair : (p : ℕ) → Known (IsPairAt b p)
  known_pair p = both (known_digit p) (known_digit (p + 1))

  abbrev known_time : (t : ℕ) → Known (IsTime b t)
  known_time t = do
    hours ← takes (known_pair t)
    to_minutes ← takes (same (slice_index b (t + 2)) 0x3A)
    minutes ← takes (known_pair (t + 3))
    to_seconds ← takes (same (slice_index b (t + 5)) 0x3A)
    seconds ← takes (known_pair (t + 6))
    to_thousandths ← takes (either (same (slice_index b (t + 8)) 0x2C) (same (slice_index b (t + 8)) 0x2E))
    thousandths ← takes (both (known_pair (t + 9)) (known_digit (t + 11)))
    proved (record { hours = hours; to_minutes = to_minutes; minutes = minutes; to_seconds = to_seconds; seconds = seconds; to_thousandths = to_thousandths; thousandths = thousandths })

  pub begins_subrip : IsSubRip b → (IsDigit (slice_index b 0) × GoesOn (slice_index b 1)) ⊎ OccursAt b (0xEF ∷ 0xBB ∷ 0xBF ∷ []) 0
  begins_subrip (inl cue) = inl (cue_begins b 0 cue)
  begins_subrip (inr (mark, cue)) = inr mark

  abbrev known_begun : Known (IsDigit (slice_index b 0) × GoesOn (slice_index b 1))
  known_begun = both (known_digit 0) (either (known_digit 1) (either (same (slice_index b 1) 0x0A) (same (slice_index b 1) 0x0D)))

  -- a cue with one known_digit, and 0A after it, or what begins otherwise
  abbrev pub known_subrip : Known (IsSubRip b)
  known_subrip = do
    begun ← needs (either known_begun (occurs by_place (0xEF ∷ 0xBB ∷ 0xBF ∷ []) b 0)) begins_subrip
    first ← takes (known_digit 0)
    ends ← takes (same (slice_index b 1) 0x0A)
    start ← takes (known_time 2)
    arrow ← takes (occurs by_place (codes " --> ") b 14)
    stop ← takes (known_time 19)
    proved (inl (1, 2, (omega arith, omega arith), (λ k lt. only_first (λ k. IsDigit (slice_index b (0 + k))) first k lt), inl (ends, refl), (start, arrow, stop)))
