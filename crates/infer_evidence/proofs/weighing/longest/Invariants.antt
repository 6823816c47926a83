-- none of the texts so far is longer
use Rattle.infer_evidence.proofs.Common.{◌≤◌, AllWithin, length}
use Rattle.infer_evidence.proofs.weighing.longest.Given as goal

abbrev pub invariant-loop-text : goal.invariant-loop-text
invariant-loop-text l = AllWithin (λ t. length t.now ≤ l.longest) l.texts 0 l.text-index
