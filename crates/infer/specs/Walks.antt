-- The first of some rows, named by their numbers, and which were asked.
use Rattle.std.specs.Prelude.{◌≡◌, ◌↔◌, ◌⊎◌, ◌&&◌, ℕ, Bool, true, false, List, [], ◌∷◌, Option, None, Some, MatchOption, length, nat_le}
use Rattle.std.specs.List.{filter, slice_get}
use Rattle.std.specs.Option.{option_map_or}
use Rattle.std.specs.Str.{bytes_eq}
use denote.Ref.{Bor}
use Rattle.infer.specs.BuiltIn.{BuiltIn}
use Rattle.infer.specs.First.{IsFirstOf}
use Rattle.infer.specs.Leads.{candidates_of}
use Rattle.infer.specs.Questions.{IsAsked}
use Rattle.infer.specs.Row.{Row, Accepts}
use Rattle.infer.specs.Table.{table}
use Rattle.infer.specs.Triple.{Triple}

-- row i of the table is there and has the property
abbrev pub RowHas : (Row BuiltIn → Type 0) → ℕ → Type 0
RowHas P i = MatchOption (slice_get table i) ⊥ P

-- the row is one that is asked for, and accepts the buffer
abbrev pub Takes : (Triple → Type 0) → List ℕ → Row BuiltIn → Type 0
Takes asked b r = IsAsked asked r × Accepts b r

-- what a walk asks for: the rows with the extension, if one is given
abbrev pub HasGiven : Option (Bor (List ℕ)) → Triple → Type 0
HasGiven None t = Unit {0}
HasGiven (Some extension) t = t.extension ≡ extension.now

abbrev pub has_given : Option (Bor (List ℕ)) → Triple → Bool
has_given None t = true
has_given (Some extension) t = bytes_eq t.extension extension.now

-- o is the first of the numbers that have the property, and none if no number has it
unfoldable pub IsFirstAmong : (ℕ → Type 0) → List ℕ → Option ℕ → Type 0
IsFirstAmong P [] o = o ≡ None
IsFirstAmong P (i ∷ is) o = (P i × (o ≡ Some i)) ⊎ ((¬ P i) × IsFirstAmong P is o)

-- row i is there and is one that a walk asks for
abbrev pub is_asked : Option (Bor (List ℕ)) → ℕ → Bool
is_asked extension i = option_map_or (λ r. has_given extension r.shows) (slice_get table i) false

-- the number is not above the answer, as none is above no answer
abbrev pub is_not_above : Option ℕ → ℕ → Bool
is_not_above None i = true
is_not_above (Some answer) i = nat_le i answer

-- the candidates of the buffer that a walk asks for, in order, up to the answer
abbrev pub asked_rows : Option (Bor (List ℕ)) → List ℕ → Option ℕ → List ℕ
asked_rows extension b answer = filter (λ i. is_not_above answer i && is_asked extension i) (candidates_of b)

-- going through the candidates of a buffer finds the first row that accepts it, and nothing else
abbrev pub WalksFindFirst : Type 0
WalksFindFirst =
    (b : List ℕ) (o : Option ℕ) → IsFirstAmong (RowHas (Takes (HasGiven None) b)) (candidates_of b) o ↔ IsFirstOf (Accepts b) table o

-- how many these are
abbrev pub count_asked : Option (Bor (List ℕ)) → List ℕ → Option ℕ → ℕ
count_asked extension b answer = length (asked_rows extension b answer)
