-- no bytes bring one of the alternatives so far
use Rattle.infer_more.proofs.Common.{take}
use Rattle.infer_more.proofs.OpenLemmas.{MayFit}
use Rattle.infer_more.proofs.more_bytes.may_become_accepted.Given as goal

abbrev pub invariant-loop-alternative : goal.invariant-loop-alternative
invariant-loop-alternative l = ¬ MayFit l.buf (take l.alternative-index l.signature)
