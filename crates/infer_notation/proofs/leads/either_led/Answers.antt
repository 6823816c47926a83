use Rattle.infer_notation.proofs.Common.{subst, IsKnown, IsLed}
use Rattle.infer_notation.proofs.LeadLemmas.{known_led, known_one}
use Rattle.infer_notation.proofs.leads.either_led.Goals as goal

pub returns-in-Never : goal.returns-in-Never
returns-in-Never c = λ f g h i. known_one c.args.lead f g h (subst (λ k. IsKnown k g) c.in-Never.is i)

pub returns-in-Nothing : goal.returns-in-Nothing
returns-in-Nothing c = λ f g h i. tt

pub returns-in-Some : goal.returns-in-Some
returns-in-Some c = λ f g h i. known_led c.args.lead c.in-Led.more c.in-Some.merged f g h (subst (λ k. IsKnown k g) c.in-Led.is i) (λ b e. subst (λ o. IsLed o b) c.in-Some.is (c.merged.ensures b e))

pub returns-in-None : goal.returns-in-None
returns-in-None c = λ f g h i. tt
