use Rattle.infer.proofs.Common.{rules, tests, YieldsList-from_slice, cases_from_any, IsAsked, custom_row}
use Rattle.infer.proofs.ListLemmas.{some_of_any}
use Rattle.infer.proofs.caller.infer.Infer.custom_has.Goals as goal

pub returns : goal.returns
returns g c =
    let asked = g.Q.Question.asked c.args.question.now in
    some_of_any custom_row (IsAsked asked) _ _ c.custom.ensures _
    (cases_from_any _ _ _ (λ r. IsAsked asked (custom_row r)) (λ r. ¬ IsAsked asked (custom_row r)) c.any.ensures.ran
    (YieldsList-from_slice _ c.iter.ensures.rest) (λ x q k. search (rules, tests)) (λ x q k. search (rules, tests)))
