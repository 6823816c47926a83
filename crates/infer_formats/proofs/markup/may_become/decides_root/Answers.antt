use Rattle.infer_formats.proofs.Common.{IsTrue, false≢true, not, subst}
use Rattle.infer_formats.proofs.MarkupLemmas.{ended_says, never_says}
use Rattle.infer_formats.specs.Markup.{HasClosing}
use Rattle.infer_formats.proofs.markup.may_become.decides_root.Goals as goal

pub returns-in-Some-clause-says : goal.returns-in-Some-clause-says
returns-in-Some-clause-says c = λ yes.
    ended_says c.args.front.now c.in-Some.root.name.now c.in-Some.root.rest.now c.in-Some.ensures.found (c.has_closing.ensures.0 yes)

pub returns-in-Some-clause-ended : goal.returns-in-Some-clause-ended
returns-in-Some-clause-ended c = λ name rest is closes.
    c.has_closing.ensures.1 (subst HasClosing (c.in-Some.ensures.only name rest is).1 closes)

pub returns-in-None-clause-ended : goal.returns-in-None-clause-ended
returns-in-None-clause-ended c = λ name rest is closes. absurd (c.in-None.ensures.found name rest is)

pub returns-in-None-clause-says : goal.returns-in-None-clause-says
returns-in-None-clause-says c = λ yes. never_says c.args.front.now (λ name reached. let t = c.may_come_to_root.ensures name reached in false≢true (subst (λ r. IsTrue (not r)) t yes))
