use Rattle.infer_notation.proofs.Common.{token_listed}
use Rattle.infer_notation.proofs.LeadLemmas.{read_next}
use Rattle.infer_notation.proofs.leads.next.Goals as goal

pub returns-clause-found : goal.returns-clause-found
returns-clause-found c = λ whole h.
    read_next c.args.reading c.taken.result whole c.args.text.now (token_listed c.in-Ok.token) c.in-Ok.count c.in-Ok-step.cursor c.in-Ok-step.effect c.asked-lead.result c.requires.some c.requires.no_blank
    c.in-Ok.ensures.value c.in-Ok-step.ensures.found c.taken.ensures.cursor c.taken.ensures.known c.asked-lead.ensures h
