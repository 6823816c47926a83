-- The table's length, and what its rows have.
use Rattle.infer.proofs.Common.{ap, number_of, row_listed, IsTrue, Bool, DecidesAccepted, subst, sym, ◌≡◌, ◌↔◌, ℕ, [], length, refl, Option, None, Some, MatchOption, option_map_or, slice_get, table, ROW_COUNT, BuiltIn, fixed, Row, signature_of, RowHas, List, IsAccepted, Accepts}
use Rattle.infer.specs.declared.table.built_in.BuiltInRow.{BuiltInRow}

pub length-table : length table ≡ ROW_COUNT
unfolding table
length-table = refl

pub ruleset table_rows = (length-table)

-- what no signature of no alternatives has, the signature of row i has just if the row is there and its own has it
module _ (Q : BuiltIn → Type 0) (never : ¬ Q (fixed [])) where
  of_row : (o : Option (Row BuiltIn)) → Q (option_map_or (λ r. r.signature) o (fixed [])) ↔ MatchOption o ⊥ (λ r. Q r.signature)
  of_row None = (never, λ h. absurd h)
  of_row (Some r) = (λ h. h, λ h. h)

  pub signature_has : (i : ℕ) → Q (signature_of i) ↔ RowHas (λ r. Q r.signature) i
  unfolding signature_of
  signature_has i = of_row (slice_get table i)

pub row_accepts : (b : List ℕ) (i : ℕ) → IsAccepted (signature_of i) b ↔ RowHas (Accepts b) i
row_accepts b i = signature_has (λ s. IsAccepted s b) (λ h. absurd (cc)) i

-- a row has the signature that its name has
pub named_signature : (i : ℕ) (r : BuiltInRow) → slice_get table i ≡ Some (row_listed r) → signature_of i ≡ signature_of (number_of r.row)
unfolding signature_of
named_signature i r e = ap (λ o. option_map_or (λ r. r.signature) o (fixed [])) e

-- what tells whether a signature accepts is true exactly if it does
pub accepted_as_told : (s : BuiltIn) (b : List ℕ) (r : Bool) → DecidesAccepted s b r → IsTrue r ↔ IsAccepted s b
accepted_as_told (fixed alternatives) b r told = (subst IsTrue told, subst IsTrue (sym told))
accepted_as_told s b r told = told
