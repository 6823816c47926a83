use Rattle.infer_evidence.proofs.Common.{HasPart, subst, sym}
use Rattle.infer_evidence.proofs.PartLemmas.{some_text}
use Rattle.infer_evidence.proofs.weighing.held.Goals as goal

pub returns-in-Text-clause-proves : goal.returns-in-Text-clause-proves
returns-in-Text-clause-proves c = λ b same. subst (HasPart b) (sym c.in-Text.is) (c.text_held.ensures.proves b same)

pub returns-in-Some-clause-proves : goal.returns-in-Some-clause-proves
returns-in-Some-clause-proves c = λ b same. subst (HasPart b) (sym c.in-AnyText.is)
    (some_text _ c.in-AnyText.place b c.in-Some.text.now (c.in-Some.ensures.among) (c.text_held-in-Some.ensures.proves b same))
