use Rattle.infer_more.proofs.Common.{ap, length, sym, ◌∙◌, le-leb, may_have, part_listed, Piece}
use Rattle.infer_sig.specs.Signature.{text}
use Rattle.infer_more.proofs.OpenLemmas.{agrees_test, range_past, range_within}
use Rattle.infer_more.proofs.more_bytes.may_have.Goals as goal

pub returns-in-At : goal.returns-in-At
returns-in-At c =
    agrees_test c.in-At.place c.asked-in-At.result.now c.args.buf.now _ c.may_stand_at.ensures
    ∙ ap (λ t. may_have c.args.buf.now (text c.in-At.place t)) c.asked-in-At.ensures
    ∙ sym (ap (λ (p : Piece). may_have c.args.buf.now (part_listed p)) c.in-At.is)

pub returns-then-buf-place-2 : goal.returns-then-buf-place-2
returns-then-buf-place-2 c =
    le-leb (length c.args.buf.now) c.in-Between.place c.if-buf-place-2.true
    ∙ range_past c.in-Between.place c.args.buf.now c.in-Between.low c.in-Between.high c.if-buf-place-2.true
    ∙ sym (ap (λ (p : Piece). may_have c.args.buf.now (part_listed p)) c.in-Between.is)

pub returns-else-buf-place-2 : goal.returns-else-buf-place-2
returns-else-buf-place-2 c =
    range_within c.in-Between.place c.args.buf.now c.in-Between.low c.in-Between.high c.if-buf-place-2.false _ c.is_between.ensures
    ∙ sym (ap (λ (p : Piece). may_have c.args.buf.now (part_listed p)) c.in-Between.is)
