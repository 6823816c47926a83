use Rattle.infer_more.proofs.Common.{◌∙◌, false≢true, sym}
use Rattle.infer.proofs.EvidenceLemmas.{refuted_by}
use Rattle.infer_more.proofs.EvidenceLemmas.{never_alike, no_row, other_parent, widens_accepted, widens_alike}
use Rattle.infer_more.proofs.deciding_bytes.weigh_at.Goals as goal

pub returns-then-has_parent-clause-answer : goal.returns-then-has_parent-clause-answer
returns-then-has_parent-clause-answer c =
    let wide = widens_accepted c.args.parent c.args.i _ (sym c.in-Some.ensures.listed) (c.has_parent.ensures.0 c.if-has_parent.true) c.args.buf.now in
    let answer = c.weigh_row.ensures.answer in
    (λ yes. wide.0 (answer.0 yes), λ w. answer.1 (wide.1 w))

pub returns-then-has_parent-clause-proves : goal.returns-then-has_parent-clause-proves
returns-then-has_parent-clause-proves c = λ b bytes agrees.
    let told = c.weigh_row.ensures.proves b bytes agrees in
    (told.0, widens_alike c.args.parent c.args.i c.args.buf.now b told.1)

pub returns-else-has_parent-clause-answer : goal.returns-else-has_parent-clause-answer
returns-else-has_parent-clause-answer c =
    let other = other_parent c.args.parent c.args.i _ (sym c.in-Some.ensures.listed) (refuted_by c.if-has_parent.false c.has_parent.ensures) c.args.buf.now in
    (λ yes. absurd (false≢true (sym c.if-has_parent.false ∙ yes)), λ w. absurd (other w))

pub returns-else-has_parent-clause-proves : goal.returns-else-has_parent-clause-proves
returns-else-has_parent-clause-proves c = λ b bytes agrees.
    let other = other_parent c.args.parent c.args.i _ (sym c.in-Some.ensures.listed) (refuted_by c.if-has_parent.false c.has_parent.ensures) in
    (agrees, never_alike (other b) (other c.args.buf.now))

pub returns-in-None-clause-answer : goal.returns-in-None-clause-answer
returns-in-None-clause-answer c =
    (λ yes. absurd (false≢true yes), λ w. absurd (no_row c.args.parent c.args.i (sym c.in-None.ensures.listed) c.args.buf.now w))

pub returns-in-None-clause-proves : goal.returns-in-None-clause-proves
returns-in-None-clause-proves c = λ b bytes agrees.
    let none = no_row c.args.parent c.args.i (sym c.in-None.ensures.listed) in
    (agrees, never_alike (none b) (none c.args.buf.now))
