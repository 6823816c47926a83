use Rattle.infer_sniff.proofs.FinalLemmas.{first-stays}
use Rattle.infer_sniff.proofs.laws.decided.Goals as goal

pub returns : goal.returns
returns c = λ b settled more o bytes first.
    (first-stays c.numbers.ensures.many c.growth.ensures.every c.arrival.ensures.awaited c.arrival.ensures.early b o first settled more).0
