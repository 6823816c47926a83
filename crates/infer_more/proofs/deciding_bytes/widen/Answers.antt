use Rattle.infer_more.proofs.Common.{WidensAt, arith}
use Rattle.infer.proofs.EvidenceLemmas.{refuted_by}
use Rattle.infer_more.proofs.LeastLemmas.{first_found, least_late}
use Rattle.infer_more.proofs.RuledLemmas.{first_alike, none_alike}
use Rattle.infer_more.proofs.TableLemmas.{length-further}
use Rattle.infer_more.proofs.deciding_bytes.widen.Goals as goal

pub returns-then-widens-clause-bound : goal.returns-then-widens-clause-bound
returns-then-widens-clause-bound c = let within = (c.weigh_at-widens.ensures.answer.0 c.if-widens.true).0 in omega (arith, within, length-further)

pub returns-then-widens-clause-first : goal.returns-then-widens-clause-first
returns-then-widens-clause-first c =
    let within = (c.weigh_at-widens.ensures.answer.0 c.if-widens.true).0 in
    first_found c.args.parent c.args.buf.now _ c.least_widening.ensures (omega (arith, within, length-further))

pub returns-then-widens-clause-proves : goal.returns-then-widens-clause-proves
returns-then-widens-clause-proves c = λ b bytes agrees.
    let before = c.rule_out_all.ensures.proves b bytes agrees in
    let told = c.weigh_at-widens.ensures.proves b bytes before.0 in
    (told.0, first_alike c.args.parent c.args.buf.now b _ c.least_widening.ensures before.1 told.1 (c.weigh_at-widens.ensures.answer.0 c.if-widens.true))

pub returns-else-widens-clause-first : goal.returns-else-widens-clause-first
returns-else-widens-clause-first c =
    let own = c.least_widening.ensures in
    none_alike c.args.parent c.args.buf.now c.args.buf.now _ own (least_late (WidensAt c.args.parent c.args.buf.now) _ own.least) (λ h. h, λ h. h)
    (refuted_by c.if-widens.false c.weigh_at-widens.ensures.answer)

pub returns-else-widens-clause-proves : goal.returns-else-widens-clause-proves
returns-else-widens-clause-proves c = λ b bytes agrees.
    let before = c.rule_out_all.ensures.proves b bytes agrees in
    let told = c.weigh_at-widens.ensures.proves b bytes before.0 in
    (told.0, none_alike c.args.parent c.args.buf.now b _ c.least_widening.ensures before.1 told.1 (refuted_by c.if-widens.false c.weigh_at-widens.ensures.answer))
