-- Where a text is in a part of a buffer, and which such place is the least.
use Rattle.std.specs.Prelude.{ℕ, ◌+◌, ◌<◌, ◌≤◌, List, Option, length, MatchOption}

-- the text is at p, which is from `start` on, and ends by `end`: it stands there (`OccursAt`), or may come to (`AgreesAt`)
pub record IsWithin (At : List ℕ → List ℕ → ℕ → Type 0) (b text : List ℕ) (start end p : ℕ) : Type 0 where
  pub stands : At b text p
  pub low : start ≤ p
  pub high : p + length text ≤ end

-- p is the least such place
pub record IsFirstPlace (At : List ℕ → List ℕ → ℕ → Type 0) (b text : List ℕ) (start end p : ℕ) : Type 0 where
  pub here : IsWithin At b text start end p
  pub before : (q : ℕ) → q < p → ¬ IsWithin At b text start end q

-- r is the least such place, and none only if there is none
abbrev pub IsFirstWithin : (List ℕ → List ℕ → ℕ → Type 0) → List ℕ → List ℕ → ℕ → ℕ → Option ℕ → Type 0
IsFirstWithin At b text start end r =
    MatchOption r ((p : ℕ) → ¬ IsWithin At b text start end p) (λ p. IsFirstPlace At b text start end p)

-- r is a place that has the property, and none only if no place has it
abbrev pub FindsPlace : (ℕ → Type 0) → Option ℕ → Type 0
FindsPlace P r = MatchOption r ((p : ℕ) → ¬ P p) (λ p. P p)
