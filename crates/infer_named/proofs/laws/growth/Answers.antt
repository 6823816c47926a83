use Rattle.infer_named.proofs.LawLemmas.{answers_last, answers_last_by_kind, changes_once, decided_answers_last, kinds_last, leads_last}
use Rattle.infer_named.proofs.laws.growth.Goals as goal

pub returns-clause-leads : goal.returns-clause-leads
returns-clause-leads c = leads_last

pub returns-clause-kinds : goal.returns-clause-kinds
returns-clause-kinds c = kinds_last

pub returns-clause-answers : goal.returns-clause-answers
returns-clause-answers c = answers_last

pub returns-clause-kept : goal.returns-clause-kept
returns-clause-kept c = answers_last_by_kind

pub returns-clause-once : goal.returns-clause-once
returns-clause-once c = changes_once

pub returns-clause-decided : goal.returns-clause-decided
returns-clause-decided c = decided_answers_last
