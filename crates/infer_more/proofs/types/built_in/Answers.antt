use Rattle.infer_more.proofs.Common.{Accepts, IsFirstOf, subst}
use Rattle.infer.specs.Table.{table}
use Rattle.infer_more.proofs.RowLemmas.{answer_at}
use Rattle.infer_more.proofs.types.built_in.Goals as goal

pub returns-in-Some : goal.returns-in-Some
returns-in-Some c =
    answer_at c.args.buf.now c.in-Some.row _ (subst (λ p. IsFirstOf (Accepts c.args.buf.now) table p) c.in-Some.is c.requires) c.extension_of.ensures
