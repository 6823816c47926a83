-- The answers of an `Infer` without rows of a caller are those of the built-in rows.
use Rattle.infer.proofs.Common.{arith, ◌≡◌, ℕ, List, [], ◌++◌, Option, map, Result, Ok, Err, refl, subst, Contracts, Fault, FileType, inner, IsAnswer, AnswersAsBuiltIn, Accepts, AnyAccepts, custom_rows, kept_row, rows, table, Triple}
use Rattle.std.specs.declared.io.Error.{Error}
use Rattle.infer.specs.Reading.{AnswersOpened}
use Rattle.infer.specs.declared.caller.infer.Infer.{Infer}
use Rattle.infer.specs.declared.read.watched.Watched.{Watched}
use Rattle.infer.proofs.RowLemmas.{answer_from_map}

module _ {X : Type 0} {g : Contracts X} {A : Type 0} (infer : Infer A X g) (none : custom_rows infer ≡ []) where
  IsAnswer-built_in : (b : List ℕ) (o : Option Triple) → IsAnswer (AnyAccepts b) (rows infer) o → IsAnswer (Accepts b) table o
  IsAnswer-built_in b o h =
      answer_from_map kept_row (AnyAccepts b) (λ r. refl) table o
      (subst (λ l. IsAnswer (AnyAccepts b) (l ++ map kept_row table) o) none h)

  pub answers_as_built_in : AnswersAsBuiltIn (rows infer)
  answers_as_built_in = record {
    answer = IsAnswer-built_in;
    file = λ n result h. grind (arith, IsAnswer-built_in);
    front = λ n left result h. grind (arith, IsAnswer-built_in);
  }

  -- so what was opened is answered as the built-in rows do
  pub opened_as_built_in : {R : Type 0} (remaining : R → Option (List ℕ)) (n : ℕ) (old new : Result (Watched R) Error) (result : Result (Option FileType) Fault)
      → AnswersOpened remaining n (λ b. IsAnswer (AnyAccepts b) (rows infer)) old new result → AnswersOpened remaining n (λ b. IsAnswer (Accepts b) table) old new result
  opened_as_built_in remaining n (Ok old) (Ok new) result h = record {
    answer = answers_as_built_in.front n (remaining (inner old)) result h.answer;
    rest = h.rest;
    some_bytes = answers_as_built_in.file n result h.some_bytes;
    fault = h.fault;
    memory = h.memory;
    opens_nothing = h.opens_nothing;
    lost = h.lost;
  }
  opened_as_built_in remaining n (Ok old) (Err error) result h = absurd h
  opened_as_built_in remaining n (Err error) new result h = h
