use Rattle.infer.proofs.Common.{[], arith, html, row}
use Rattle.infer.specs.declared.table.file_type.MatcherType.TheVariants.{Text}
use Rattle.infer_uses.proofs.gate.may_answer.Goals as goal

pub returns-in-Some-2-clause-told : goal.returns-in-Some-2-clause-told
returns-in-Some-2-clause-told c =
    let any = row Text [] [] html in
    (λ t. absurd (cc), λ may. absurd ((c.later.ensures.needs c.args.front.now c.args.row may).1 c.in-Some-2.found any (omega arith) (grind arith) (c.in-Some-2.ensures.first.here any)))
