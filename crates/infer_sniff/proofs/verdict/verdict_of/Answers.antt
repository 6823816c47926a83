use Rattle.infer_sniff.proofs.FinalLemmas.{Final-stays}
use Rattle.infer_sniff.proofs.verdict.verdict_of.Goals as goal

pub returns-then-is_settled-clause-lasts : goal.returns-then-is_settled-clause-lasts
returns-then-is_settled-clause-lasts c =
    Final-stays c.numbers.ensures.many c.growth.ensures.every c.arrival.ensures.awaited c.arrival.ensures.early c.args.buf.now c.first_of-first.result.1
    (c.is_settled.ensures.0 c.if-is_settled.true, c.first_of-first.ensures.is_type)
