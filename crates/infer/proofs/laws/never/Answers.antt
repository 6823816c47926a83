use Rattle.infer.proofs.Common.{get_or, subst, arith, Accepts, table, EPUB, EXE}
use Rattle.infer.proofs.OrderLemmas.{some_row}
use Rattle.infer.proofs.laws.never.Goals as goal

pub returns : goal.returns
unfolding table
returns c = λ buf i first. (
  λ e. first.before EXE some_row (omega arith) (omega arith) (subst (λ j. Accepts buf (get_or table j some_row)) e (first.here some_row)),
  λ e. first.before EPUB some_row (omega arith) (omega arith) (subst (λ j. Accepts buf (get_or table j some_row)) e (first.here some_row)),
)
