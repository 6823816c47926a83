use Rattle.infer_formats.proofs.MarkupLemmas.{root_stays}
use Rattle.infer_formats.proofs.markup.may_become.may_have_root.Goals as goal

pub returns-in-Some : goal.returns-in-Some
returns-in-Some c = λ reached.
    c.is_same.ensures.1 (root_stays c.args.buf.now c.in-Some.root.name.now c.in-Some.root.rest.now c.args.name.now c.in-Some.ensures.found reached)

pub returns-in-None : goal.returns-in-None
returns-in-None c = c.may_come_to_root.ensures c.args.name.now
