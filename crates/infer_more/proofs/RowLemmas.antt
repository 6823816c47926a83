-- What holds of a further row, and of some further row.
use Rattle.infer_more.proofs.Common.{◌≡◌, ◌↔◌, ◌<◌, ◌≤◌, ◌∙◌, ℕ, Bool, false, IsTrue, List, Option, None, Some, ap, inl, inr, length, option_map, subst, sym, arith, HoldsAt, get_or_from_slice_get, slice_get_cases, slice_get_within, Accepts, BuiltIn, IsFirstOf, SomeHas, Triple, table, Further, further}
use Rattle.std.proofs.Common.{slice_get}
use Rattle.infer.specs.First.{IsAnswer}
use Rattle.infer.specs.Row.{Row}

module _ (P : Further → Type 0) where
  abbrev pub HasAt : ℕ → Type 0
  HasAt i = (i < length further) × HoldsAt P further i

  pub has_row : (i : ℕ) (r : Further) (b : Bool) → Some r ≡ slice_get further i → IsTrue b ↔ P r → IsTrue b ↔ HasAt i
  has_row i r b e iff = (
    λ h. (slice_get_within further i r (sym e), λ d. subst P (sym (get_or_from_slice_get further i r d (sym e))) (iff.0 h)),
    λ h. iff.1 (subst P (get_or_from_slice_get further i r r (sym e)) (h.1 r)),
  )

  pub has_no_row : (i : ℕ) → None ≡ slice_get further i → IsTrue false ↔ HasAt i
  has_no_row i e = (
    λ h. absurd (cc),
    λ h. let lt : i < length further = h.0 in elim (slice_get_cases further i).1 [
      | inl (r, within, found, same) ↦ absurd (cc)
      | inr (past, none) ↦ absurd (omega arith)
    ],
  )

  pub none_of_all : (n : ℕ) → length further ≤ n → ((k : ℕ) → k < n → ¬ HasAt k) → IsTrue false ↔ SomeHas P further
  none_of_all n le none = (λ h. absurd (cc), λ h. let lt : h.0 < length further = h.1 in absurd (none h.0 (omega arith) (lt, h.2)))

-- the first built-in row that accepts is the answer, with what it shows
pub answer_at : (b : List ℕ) (row : ℕ) (e : Option (List ℕ)) → IsFirstOf (Accepts b) table (Some row) → e ≡ option_map (λ r. r.shows.extension) (slice_get table row)
    → (parent : Option Triple) × IsAnswer (Accepts b) table parent × (e ≡ option_map (λ p. p.extension) parent)
answer_at b row e first is = elim (slice_get_cases table row).1 [
  | inl (r, lt, found, same) ↦
      (Some r.shows, (row, first, λ d. ap (λ (x : Row BuiltIn). x.shows) (get_or_from_slice_get table row r d found)), is ∙ ap (option_map (λ r. r.shows.extension)) found)
  | inr (past, none) ↦ absurd (let within = first.within in omega arith)
]
