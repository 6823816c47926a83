use Rattle.infer_more.proofs.Common.{Some, option_map, ap, ◌∙◌, Further}
use Rattle.infer_more.proofs.answers.further_type.Goals as goal

pub returns-in-Some : goal.returns-in-Some
returns-in-Some c = ap Some c.type_of.ensures ∙ ap (option_map (λ (r : Further). r.shows)) c.in-Some.ensures.listed

pub returns-in-None : goal.returns-in-None
returns-in-None c = ap (option_map (λ (r : Further). r.shows)) c.in-None.ensures.listed
