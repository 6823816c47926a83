use Rattle.infer_sniff.proofs.FinalLemmas.{first-stays}
use Rattle.infer_sniff.proofs.position.position_settled.Goals as goal

pub returns-clause-lasts : goal.returns-clause-lasts
returns-clause-lasts c = λ is.
    first-stays c.numbers.ensures.many c.growth.ensures.every c.arrival.ensures.awaited c.arrival.ensures.early c.args.buf.now c.position-first.result
    c.position-first.ensures.first (c.is_settled.ensures.0 is)
