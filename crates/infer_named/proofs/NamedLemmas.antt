-- Each row that the prover finds a key for has a name.
use Rattle.std.proofs.Common.{◌≡◌, ◌+◌, ◌||◌, ℕ, Bool, true, false, IsTrue, List, [], ◌∷◌, ap, drop, get_or, if◌then◌else◌, inl, inr, length, refl, subst, sym, take}
use Rattle.std.proofs.lemmas.Bool.{cases_Bool, cases_lt}
use Rattle.std.proofs.lemmas.List.{drop-drop, get_or_past, take-append-drop}
use Rattle.std.proofs.lemmas.List.Elements.{All-append, All-cons, All-nil}
use Rattle.std.proofs.lemmas.List.Folds.{list_any_at}
use Rattle.std.specs.List.{All, list_any}
use Rattle.infer.specs.Triple.{Triple}
use Rattle.infer_named.specs.Join.{is_among, takes}
use Rattle.infer_named.specs.Key.{key}
use Rattle.infer_named.specs.Laws.{has_key}
use Rattle.infer_named.specs.Nameless.{nameless}
use Rattle.infer_named.specs.Table.{keys}
use Rattle.infer_named.specs.declared.table.Part.TheVariants.{Whole}
use Rattle.infer_named.specs.declared.table.Usage.TheVariants.{Strict}

-- whether a row has a name
abbrev pub IsNamed : Triple → Type 0
IsNamed t = IsTrue (has_key t || is_among t nameless)

or_left : (a b : Bool) → a ≡ true → IsTrue (a || b)
or_left true b on = refl
or_left false b on = absurd (cc)

or_right : (a b : Bool) → b ≡ true → IsTrue (a || b)
or_right true b on = refl
or_right false b on = on

-- whether the key of this number takes the row, or it is one without a name
abbrev pub is_taken : Triple → ℕ → Bool
is_taken t number = is_among t nameless || list_any (takes t) (get_or keys number (key Whole [] Strict [])).readings

-- the extensions of the rows that the keys of these numbers do not take, each its own
abbrev pub unnamed : List Triple → List ℕ → List (List ℕ)
unnamed [] numbers = []
unnamed (t ∷ rows) [] = t.extension ∷ unnamed rows []
unnamed (t ∷ rows) (number ∷ numbers) = if is_taken t number then unnamed rows numbers else t.extension ∷ unnamed rows numbers

-- a row that a key takes has a name
of_taken : (t : Triple) (number : ℕ) → is_taken t number ≡ true → IsNamed t
of_taken t number taken = elim (cases_Bool (is_among t nameless)) [
  | inl on ↦ or_right (has_key t) (is_among t nameless) on
  | inr off ↦ (
      let by : list_any (takes t) (get_or keys number (key Whole [] Strict [])).readings ≡ true = rw off at taken in
      or_left (has_key t) (is_among t nameless) (elim (cases_lt number (length keys)) [
        | inl within ↦ list_any_at (λ k. list_any (takes t) k.readings) keys number (key Whole [] Strict []) within by
        | inr past ↦ absurd (let none : list_any (takes t) (get_or keys number (key Whole [] Strict [])).readings ≡ false
            = ap (λ k. list_any (takes t) k.readings) (get_or_past keys number (key Whole [] Strict []) past) in cc)
      ]))
]

-- none is left of some rows, so each has a name
pub all_named : (rows : List Triple) (numbers : List ℕ) → unnamed rows numbers ≡ [] → All IsNamed rows
all_named [] numbers none = All-nil IsNamed
all_named (t ∷ rows) [] none = absurd (cc)
all_named (t ∷ rows) (number ∷ numbers) none = elim (cases_Bool (is_taken t number)) [
  | inl on ↦ All-cons IsNamed t rows (of_taken t number on) (all_named rows numbers (rw on at none))
  | inr off ↦ absurd (let left = rw off at none in cc)
]

-- the rows of a part, and those of the last, after which no row stands
pub named_part : (rows : List Triple) (start count : ℕ) (numbers : List ℕ) → unnamed (take count (drop start rows)) numbers ≡ []
    → All IsNamed (drop (start + count) rows) → All IsNamed (drop start rows)
named_part rows start count numbers none after =
    subst (All IsNamed) (take-append-drop count (drop start rows))
    (All-append IsNamed (take count (drop start rows)) (drop count (drop start rows)) (all_named (take count (drop start rows)) numbers none)
    (subst (All IsNamed) (sym (drop-drop count start rows)) after))

pub named_last : (rows : List Triple) (start count : ℕ) (numbers : List ℕ) → drop (start + count) rows ≡ [] → unnamed (take count (drop start rows)) numbers ≡ []
    → All IsNamed (drop start rows)
named_last rows start count numbers end none = named_part rows start count numbers none (subst (All IsNamed) (sym end) (All-nil IsNamed))
