use Rattle.infer_sniff.proofs.Common.{take, drop}
use Rattle.infer_sniff.proofs.FinalLemmas.{first-stays}
use Rattle.infer_sniff.proofs.NeededLemmas.{joined_bytes, kept_open, one_short}
use Rattle.infer_sniff.proofs.laws.needed.Goals as goal

pub returns-clause-cases : goal.returns-clause-cases
returns-clause-cases c how =
    let found = c.breaks.ensures.beginnings how in (
      take 1024 found.0,
      drop 1024 found.0,
      joined_bytes c.single.ensures 1024 _ found.0 found.1,
      kept_open c.single.ensures (first-stays c.numbers.ensures.many c.growth.ensures.every c.arrival.ensures.awaited c.arrival.ensures.early)
          how found.0 found.1 found.2,
    )

pub returns-clause-least : goal.returns-clause-least
returns-clause-least c =
    let found = c.breaks.ensures.least in
    (take 1023 found.1, drop 1023 found.1, joined_bytes c.single.ensures 1023 found.0 found.1 found.3, one_short c.single.ensures found.0 found.1 found.2 found.3 found.4)
