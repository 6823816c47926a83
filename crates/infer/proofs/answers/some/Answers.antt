use Rattle.infer.proofs.Common.{rules, tests, YieldsList-from_slice, cases_from_any, RowHas, Takes}
use Rattle.infer.proofs.CandidateLemmas.{some_of_candidates}
use Rattle.infer.proofs.answers.some.Goals as goal

pub returns : goal.returns
returns g c =
    let asked = g.Q.Question.asked c.args.question.now in
    let P = RowHas (Takes asked c.args.buf.now) in
    some_of_candidates c.leads.ensures c.blank.ensures asked c.args.buf.now _ _ (c.candidates_of.ensures.rows c.args.buf.now (search rules))
    (cases_from_any _ _ _ P (λ i. ¬ P i) c.any.ensures.ran (YieldsList-from_slice _ c.iter.ensures.rest) (λ x q k. search (rules, tests)) (λ x q k. search (rules, tests)))
