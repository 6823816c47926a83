use Rattle.infer_evidence.proofs.Common.{HasPart, subst}
use Rattle.infer_evidence.proofs.PartLemmas.{no_text}
use Rattle.infer_evidence.proofs.weighing.refused.Goals as goal

pub returns-in-AnyText-clause-proves : goal.returns-in-AnyText-clause-proves
returns-in-AnyText-clause-proves c = λ b same h. no_text _ c.in-AnyText.place b (c.texts_refused.ensures.proves b same) (subst (HasPart b) c.in-AnyText.is h)

pub returns-in-Text-clause-proves : goal.returns-in-Text-clause-proves
returns-in-Text-clause-proves c = λ b same h. c.text_refused.ensures.proves b same (subst (HasPart b) c.in-Text.is h)
