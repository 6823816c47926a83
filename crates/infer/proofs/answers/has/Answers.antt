use Rattle.infer.proofs.Common.{rules, tests, YieldsList-from_slice, cases_from_any, row_listed, IsAsked}
use Rattle.infer.proofs.ListLemmas.{some_of_any}
use Rattle.infer.proofs.answers.has.Goals as goal

pub returns : goal.returns
returns g c =
    let asked = g.Q.Question.asked c.args.question.now in
    some_of_any row_listed (IsAsked asked) _ _ c.rows.ensures.listed _
    (cases_from_any _ _ _ (λ r. IsAsked asked (row_listed r)) (λ r. ¬ IsAsked asked (row_listed r)) c.any.ensures.ran
    (YieldsList-from_slice _ c.iter.ensures.rest) (λ x q k. search (rules, tests)) (λ x q k. search (rules, tests)))
