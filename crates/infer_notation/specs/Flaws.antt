-- Where a text is wrong.
use Rattle.std.specs.Prelude.{◌≡◌, ◌≤◌, ℕ, List, IsTrue, length}
use Rattle.infer_notation.specs.Grammar.{unread}
use Rattle.infer_notation.specs.Reasons.{is_of_token}
use Rattle.infer_notation.specs.declared.reason.Flaw.{Flaw}

-- the flaw is at a place of the text or at its end, and if no token stands there, at the first such place
pub record IsFlawOf (text : List ℕ) (flaw : Flaw) : Type 0 where
  pub inside : flaw.left ≤ length text
  pub first : IsTrue (is_of_token flaw.reason) → flaw.left ≡ length (unread text)
