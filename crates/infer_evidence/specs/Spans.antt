-- A part of a list.
use Rattle.std.specs.Prelude.{ℕ, List, drop, take}

-- so many elements of a list from a place on, or those that there are
abbrev pub stretch : {A : Type 0} → List A → ℕ → ℕ → List A
stretch list start count = take count (drop start list)
