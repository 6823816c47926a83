use Rattle.infer_tool.proofs.Common.{rules, tests, HoldsAt, first_from_Range, HasExtension, table}
use Rattle.infer_tool.proofs.SampleLemmas.{first_found}
use Rattle.infer_tool.proofs.sample.first_with.Goals as goal

pub returns : goal.returns
returns c =
    first_found (HasExtension c.args.extension.now) _ c.numbers.ensures.many c.find.result
    (first_from_Range _ _ _ c.find.result (HoldsAt (HasExtension c.args.extension.now) table) (HoldsAt (λ r. ¬ HasExtension c.args.extension.now r) table)
    c.find.ensures.ran (λ i q called. search (rules, tests)) (λ i q called. search (rules, tests)))
