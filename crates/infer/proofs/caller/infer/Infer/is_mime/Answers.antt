use Rattle.infer.proofs.Common.{AnyAccepts, HasMimeType, kept_row}
use Rattle.infer.proofs.ListLemmas.{some_of_rest}
use Rattle.infer.proofs.caller.infer.Infer.is_mime.Goals as goal

pub returns-else-custom_some : goal.returns-else-custom_some
returns-else-custom_some g c =
    some_of_rest kept_row (λ t r. HasMimeType t r × AnyAccepts c.args.buf.now r) _ _ _ _ _
    c.as_bytes-text.ensures.value c.if-custom_some.ensures c.is_mime.ensures
