-- Subtitles of SubRip, by their first cue.
use Rattle.std.specs.Prelude.{◌≡◌, ℕ, ◌+◌, ◌<◌, ◌≤◌, ◌⊎◌, List, [], ◌∷◌, codes, slice_index}
use Rattle.memchr.specs.Find.{OccursAt}
use Rattle.infer_deep.specs.Open.{AgreesAt}
use Rattle.infer_formats.specs.Open.{MayBe}

abbrev pub IsDigit : ℕ → Type 0
IsDigit x = (0x30 ≤ x) × (x ≤ 0x39)

-- two digits stand at p
abbrev pub IsPairAt : List ℕ → ℕ → Type 0
IsPairAt b p = IsDigit (slice_index b p) × IsDigit (slice_index b (p + 1))

-- hours, minutes, seconds and thousandths stand at t
pub record IsTime (b : List ℕ) (t : ℕ) : Type 0 where
  pub hours : IsPairAt b t
  pub to_minutes : slice_index b (t + 2) ≡ 0x3A
  pub minutes : IsPairAt b (t + 3)
  pub to_seconds : slice_index b (t + 5) ≡ 0x3A
  pub seconds : IsPairAt b (t + 6)
  pub to_thousandths : (slice_index b (t + 8) ≡ 0x2C) ⊎ (slice_index b (t + 8) ≡ 0x2E)
  pub thousandths : IsPairAt b (t + 9) × IsDigit (slice_index b (t + 11))

-- the line ends at e, by 0A or 0D 0A, and the next begins at t
abbrev pub EndsLine : List ℕ → ℕ → ℕ → Type 0
EndsLine b e t =
    ((slice_index b e ≡ 0x0A) × (t ≡ e + 1)) ⊎ ((slice_index b e ≡ 0x0D) × (slice_index b (e + 1) ≡ 0x0A) × (t ≡ e + 2))

-- the n bytes from p on are digits
abbrev pub AreDigits : List ℕ → ℕ → ℕ → Type 0
AreDigits b p n = (k : ℕ) → k < n → IsDigit (slice_index b (p + k))

-- two times with an arrow between them stand at t
abbrev pub IsSpan : List ℕ → ℕ → Type 0
IsSpan b t = IsTime b t × OccursAt b (codes " --> ") (t + 12) × IsTime b (t + 17)

-- one to nine digits stand at p, then the line ends, and two times follow
abbrev pub IsCue : List ℕ → ℕ → Type 0
IsCue b p = (n t : ℕ) × ((1 ≤ n) × (n ≤ 9)) × AreDigits b p n × EndsLine b (p + n) t × IsSpan b t

-- the first cue stands at 0, or after a byte order mark
abbrev pub IsSubRip : List ℕ → Type 0
IsSubRip b = IsCue b 0 ⊎ (OccursAt b (0xEF ∷ 0xBB ∷ 0xBF ∷ []) 0 × IsCue b 3)

-- as far as b goes, a cue may begin at p: a digit stands there, and after it another or the end of the line
abbrev pub GoesOn : ℕ → Type 0
GoesOn x = IsDigit x ⊎ (x ≡ 0x0A) ⊎ (x ≡ 0x0D)

abbrev pub MayBeginCue : List ℕ → ℕ → Type 0
MayBeginCue b p = MayBe IsDigit b p × MayBe GoesOn b (p + 1)

-- and with it subtitles may
abbrev pub MayBeSubRip : List ℕ → Type 0
MayBeSubRip b = MayBeginCue b 0 ⊎ (AgreesAt b (0xEF ∷ 0xBB ∷ 0xBF ∷ []) 0 × MayBeginCue b 3)
