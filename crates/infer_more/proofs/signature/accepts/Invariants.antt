-- none of the alternatives so far accepts the buffer
use Rattle.infer_more.proofs.Common.{Fits, alternative_listed, take}
use Rattle.infer_more.proofs.OpenLemmas.{SomeOf}
use Rattle.infer_more.proofs.signature.accepts.Given as goal

abbrev pub invariant-loop-alternative : goal.invariant-loop-alternative
invariant-loop-alternative l = ¬ SomeOf alternative_listed (λ a. Fits a l.buf) (take l.alternative-index l.signature)
