use Rattle.infer_evidence.proofs.Common.{arith}
use Rattle.infer_evidence.proofs.weighing.texts_differing.Goals as goal

pub returns-clause-proves : goal.returns-clause-proves
returns-clause-proves c = λ b same k d lt h. c.texts_refused-refusal.ensures.proves b (same, λ exact. absurd (grind (arith, exact))) k d lt h
