use Rattle.infer_formats.proofs.Common.{subst, IsAfterLast}
use Rattle.infer_formats.proofs.MarkupLemmas.{undeclared, unnamed}
use Rattle.infer_formats.proofs.markup.prolog.tag_at.Goals as goal

pub returns-then-not-is_declared : goal.returns-then-not-is_declared
returns-then-not-is_declared c =
    undeclared c.args.buf.now c.args.reached.place c.in_ok-tag.tag.to c.args.reached.doctype c.in_ok-tag.ensures.0
    (λ agrees. let is = c.is_declared.ensures.1 agrees in let not = c.if-not-is_declared.true in absurd (cc))

pub returns-then-tag : goal.returns-then-tag
returns-then-tag c =
    unnamed c.args.buf.now c.args.reached.place c.in_ok-tag.tag.to c.args.reached.doctype c.in_ok-tag.ensures.0
    (subst (IsAfterLast 0x3A c.args.buf.now _ _) c.if-tag.true c.in_ok-tag.ensures.1)
