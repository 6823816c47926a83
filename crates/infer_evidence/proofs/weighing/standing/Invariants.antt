-- none of the texts so far stands there
use Rattle.infer_evidence.proofs.Common.{AllWithin, StandsByPlace}
use Rattle.infer_evidence.proofs.weighing.standing.Given as goal

abbrev pub invariant-loop-text : goal.invariant-loop-text
invariant-loop-text l = AllWithin (λ t. ¬ StandsByPlace l.place t.now l.buf) l.texts 0 l.text-index
