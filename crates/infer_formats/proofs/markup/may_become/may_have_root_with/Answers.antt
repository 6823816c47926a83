use Rattle.infer_formats.proofs.MarkupLemmas.{root_stays_with, without_text}
use Rattle.infer_formats.proofs.markup.may_become.may_have_root_with.Goals as goal

pub returns-then-is_same : goal.returns-then-is_same
returns-then-is_same c = λ reached.
    c.may_have_in_tag.ensures
    (root_stays_with c.args.buf.now c.in-Some.root.name.now c.in-Some.root.rest.now c.args.name.now c.args.text.now c.in-Some.ensures.found reached).1

pub returns-else-is_same : goal.returns-else-is_same
returns-else-is_same c = λ reached.
    c.is_same.ensures.1
    (root_stays_with c.args.buf.now c.in-Some.root.name.now c.in-Some.root.rest.now c.args.name.now c.args.text.now c.in-Some.ensures.found reached).0

pub returns-in-None : goal.returns-in-None
returns-in-None c = λ reached. c.may_come_to_root.ensures c.args.name.now (without_text c.args.buf.now c.args.name.now c.args.text.now reached)
