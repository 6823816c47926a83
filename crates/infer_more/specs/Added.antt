-- The wider answer where a caller added rows.
use Rattle.std.specs.Prelude.{◌≡◌, ℕ, List, MatchOption, Option, Some}
use Rattle.infer.specs.Caller.{Contracts}
use Rattle.infer.specs.First.{IsAnswer}
use Rattle.infer.specs.Row.{Row}
use Rattle.infer.specs.Rows.{AnyAccepts, Signature}
use Rattle.infer.specs.Triple.{Triple}
use Rattle.infer_more.specs.Wider.{IsWiderAnswer}

-- the triple is the answer of the caller's rows, and that of the wider answer exactly if none of these accepts the buffer
pub record IsAnswerWith {X : Type 0} {g : Contracts X} (own : List (Row (Signature X g))) (b : List ℕ) (t : Option Triple) : Type 0 where
  pub first : Option Triple
  pub answers : IsAnswer (AnyAccepts b) own first
  pub is : MatchOption first (IsWiderAnswer b t) (λ x. t ≡ Some x)
