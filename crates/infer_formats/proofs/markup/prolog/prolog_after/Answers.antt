use Rattle.infer_formats.proofs.Common.{None}
use Rattle.infer_formats.proofs.MarkupLemmas.{begins_at_front, past_none, started_undeclared}
use Rattle.infer_formats.proofs.markup.prolog.prolog_after.Goals as goal

pub returns-then-starts_element-clause-tag : goal.returns-then-starts_element-clause-tag
returns-then-starts_element-clause-tag c =
    let b = c.args.buf.now in
    let is = c.starts_element.ensures.0 c.if-starts_element.true in
    (0, begins_at_front b is.1, λ at to. past_none b at to 0 None (started_undeclared b 0 is))
