use Rattle.infer.proofs.Common.{arith}
use Rattle.infer.proofs.SampleLemmas.{all_reach}
use Rattle.infer.proofs.laws.reach.Goals as goal

pub returns : goal.returns
returns c = λ i lt not_dll not_epub d. let known = all_reach c.by_place.ensures c.apart.ensures d i lt in grind arith
