use Rattle.infer.proofs.Common.{AnyAccepts, HasClass, [], kept_row, refl}
use Rattle.infer.proofs.ListLemmas.{some_of_rest}
use Rattle.infer.proofs.caller.infer.Infer.is_of.Goals as goal

pub returns-else-custom_some : goal.returns-else-custom_some
returns-else-custom_some g c =
    some_of_rest kept_row (λ _ r. HasClass c.args.class r × AnyAccepts c.args.buf.now r) _ _ _ [] [] refl c.if-custom_some.ensures c.some.ensures
