use Rattle.infer.proofs.Common.{HasExtension, kept_row}
use Rattle.infer.proofs.ListLemmas.{some_of_rest}
use Rattle.infer.proofs.caller.infer.Infer.is_supported.Goals as goal

pub returns-else-custom_has : goal.returns-else-custom_has
returns-else-custom_has g c =
    some_of_rest kept_row (λ t r. HasExtension t r) _ _ _ _ _ c.as_bytes-text.ensures.value c.if-custom_has.ensures c.is_supported.ensures
