-- The first row of a list that has a property, and what it shows.
use Rattle.std.specs.Prelude.{◌≡◌, ◌<◌, ℕ, List, Option, Some, None, length}
use Rattle.std.specs.List.{HoldsAt, AllWithin}
use Rattle.infer.specs.Row.{Row}
use Rattle.infer.specs.Triple.{Triple}

-- i is the least index of an element with the property P
pub record IsFirst {A : Type 0} (P : A → Type 0) (xs : List A) (i : ℕ) : Type 0 where
  pub within : i < length xs
  pub here : HoldsAt P xs i
  pub before : AllWithin (λ x. ¬ P x) xs 0 i

-- no element has the property
abbrev pub NoneHas : {A : Type 0} → (A → Type 0) → List A → Type 0
NoneHas P xs = AllWithin (λ x. ¬ P x) xs 0 (length xs)

-- some element has the property
abbrev pub SomeHas : {A : Type 0} → (A → Type 0) → List A → Type 0
SomeHas P xs = (i : ℕ) × (i < length xs) × HoldsAt P xs i

-- the least index of an element with the property, and none exactly if no element has it
abbrev pub IsFirstOf : {A : Type 0} → (A → Type 0) → List A → Option ℕ → Type 0
IsFirstOf P xs None = NoneHas P xs
IsFirstOf P xs (Some i) = IsFirst P xs i

-- the triple of the first row with the property, and none exactly if no row has it
abbrev pub IsAnswer : {S : Type 0} → (Row S → Type 0) → List (Row S) → Option Triple → Type 0
IsAnswer P rows None = NoneHas P rows
IsAnswer P rows (Some t) = (i : ℕ) × IsFirst P rows i × HoldsAt (λ r. r.shows ≡ t) rows i
