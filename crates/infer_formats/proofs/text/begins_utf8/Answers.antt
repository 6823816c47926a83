use Rattle.infer_formats.proofs.Utf8Lemmas.{begins_by_parts}
use Rattle.infer_formats.proofs.text.begins_utf8.Goals as goal

pub returns-then-may_begin_char : goal.returns-then-may_begin_char
returns-then-may_begin_char c =
    let says = begins_by_parts _ _ _ _ c.cut_len.ensures c.split_at.ensures.front c.split_at.ensures.back in (
      λ is. says.1 (c.may_begin_char.ensures.0 c.if-may_begin_char.true, c.is_utf8.ensures.0 is),
      λ begins. c.is_utf8.ensures.1 (says.0 begins).1,
    )

pub returns-else-may_begin_char : goal.returns-else-may_begin_char
returns-else-may_begin_char c =
    let says = begins_by_parts _ _ _ _ c.cut_len.ensures c.split_at.ensures.front c.split_at.ensures.back in (
      λ is. absurd (cc),
      λ begins. c.may_begin_char.ensures.1 (says.0 begins).0,
    )
