-- What the wider answer says of the built-in one.
use Rattle.infer_more.proofs.Common.{◌≡◌, ◌<◌, ◌+◌, ◌-◌, ℕ, false, inl, inr, List, Option, None, Some, IfSome, ap, length, nat_lt, subst, sym, ◌∙◌, arith, refl, if◌then◌else◌, option_map_or, lt-ltb, slice_get_cases, IsFirst, IsFirstOf, Accepts, ROW_COUNT, length-table, Further, further, IsWider, Widens, wider, FURTHER_COUNT, [], ◌∷◌, ◌==◌, IsTrue, eqb-true, is_listed}
use Rattle.std.proofs.Common.{slice_get}
use Rattle.std.proofs.lemmas.Bool.{or_cases, le-ltb}
use Rattle.infer.specs.Table as built_in
use Rattle.infer_more.specs.Laws.{AllAreBelow, built_in_by}
use Rattle.infer_more.specs.Wider.{IsWidened, parent_at}
use Rattle.infer_more.proofs.TableLemmas.{length-further}

-- the row's parent is that of the row with its number
parent_read : (parent : Option ℕ) (b : List ℕ) (j : ℕ) → IsFirst (Widens parent b) further j → parent_at (ROW_COUNT + j) ≡ parent
parent_read parent b j h =
    let there : nat_lt (ROW_COUNT + j) ROW_COUNT ≡ false = le-ltb (ROW_COUNT + j) ROW_COUNT (omega arith) in
    let place : ROW_COUNT + j - ROW_COUNT ≡ j = omega arith in
    let within : j < length further = h.within in
    elim (slice_get_cases further j).1 [
      | inl (r, lt, found, same) ↦
          ap (λ t. if t then None else option_map_or (λ (r : Further). r.parent) (slice_get further (ROW_COUNT + j - ROW_COUNT)) None) there
          ∙ ap (λ k. option_map_or (λ (r : Further). r.parent) (slice_get further k) None) place
          ∙ ap (λ o. option_map_or (λ (r : Further). r.parent) o None) found
          ∙ ap (λ (x : Further). x.parent) (sym same) ∙ (h.here r).0
      | inr (past, none) ↦ absurd (omega arith)
    ]

told : (b : List ℕ) (parent found : Option ℕ) → IsFirstOf (Accepts b) built_in.table parent → IsFirstOf (Widens parent b) further found
    → built_in_by (wider parent found) ≡ parent
told b None None answers widens = refl
told b (Some i) None answers widens =
    let within : i < length built_in.table = answers.within in
    let many = length-table in
    ap (λ t. if t then Some i else parent_at i) (lt-ltb i ROW_COUNT (omega arith))
told b parent (Some j) answers widens =
    ap (λ t. if t then Some (ROW_COUNT + j) else parent_at (ROW_COUNT + j)) (le-ltb (ROW_COUNT + j) ROW_COUNT (omega arith))
    ∙ parent_read parent b j widens

-- the wider answer by the first further row that widens the built-in one
module _ (b : List ℕ) (parent o : Option ℕ) where
  pub is_wider : IsFirstOf (Accepts b) built_in.table parent → IsWidened parent b o → IsWider b o
  is_wider answers (found, widens, is) = record { parent = parent; found = found; answers = answers; widens = widens; is = is }

  within_of : (p found : Option ℕ) → IfSome p (λ i. i < ROW_COUNT) → IsFirstOf (Widens p b) further found
      → IfSome (wider p found) (λ i. i < ROW_COUNT + FURTHER_COUNT)
  within_of None None bound first = tt
  within_of (Some i) None bound first = let lt : i < ROW_COUNT = bound in omega arith
  within_of p (Some j) bound first =
      let within : j < length further = first.within in
      let many = length-further in
      omega arith

  -- it is a row's number
  pub wider_within : IfSome parent (λ i. i < ROW_COUNT) → IsWidened parent b o → IfSome o (λ i. i < ROW_COUNT + FURTHER_COUNT)
  wider_within bound (found, first, is) = subst (λ p. IfSome p (λ i. i < ROW_COUNT + FURTHER_COUNT)) (sym is) (within_of parent found bound first)

pub all_below : AllAreBelow
all_below b o w =
    subst (IsFirstOf (Accepts b) built_in.table) (sym (ap built_in_by w.is ∙ told b w.parent w.found w.answers w.widens)) w.answers

-- ---- the rows below which there are none

-- the number is none of these
abbrev pub DiffersFromEach : List ℕ → ℕ → Type 0
DiffersFromEach [] n = Unit {0}
DiffersFromEach (k ∷ ks) n = (k ≡ n → ⊥) × DiffersFromEach ks n

pub not_among : (ks : List ℕ) (n : ℕ) → DiffersFromEach ks n → IsTrue (is_listed ks n) → ⊥
not_among [] n d h = absurd (cc)
not_among (k ∷ ks) n d h = elim (or_cases (k == n) (is_listed ks n) h) [
  | inl e ↦ d.0 (eqb-true k n e)
  | inr l ↦ not_among ks n d.1 l
]
