-- Beginnings of a list.
use Rattle.std.proofs.Common.{◌≡◌, ◌≢◌, ◌<◌, ℕ, false, List, [], ◌∷◌, arith, get_or, length, refl, sym}
use Rattle.std.proofs.lemmas.Bool.{eqb-true, false_from_ne_true}
use Rattle.std.specs.List.{starts_with}
use Rattle.std.specs.Prelude.{nat_eq}

-- a list does not begin with one that has another first element
pub other_first : (lead text : List ℕ) → 0 < length lead → 0 < length text → get_or lead 0 0 ≢ get_or text 0 0 → starts_with nat_eq lead text ≡ false
other_first [] text some more other = absurd (omega arith)
other_first (a ∷ lead) [] some more other = absurd (omega arith)
other_first (a ∷ lead) (b ∷ text) some more other =
    let off : nat_eq b a ≡ false = false_from_ne_true _ (λ e. other (sym (eqb-true b a e))) in rw off refl
