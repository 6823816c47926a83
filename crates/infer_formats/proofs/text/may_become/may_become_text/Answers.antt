use Rattle.infer_formats.proofs.TextLemmas.{empty_or_text}
use Rattle.infer_formats.proofs.text.may_become.may_become_text.Goals as goal

pub returns-else-is_empty : goal.returns-else-is_empty
returns-else-is_empty c = empty_or_text c.args.buf.now _ _ c.is_empty.ensures c.if-is_empty.false c.is_text.ensures
