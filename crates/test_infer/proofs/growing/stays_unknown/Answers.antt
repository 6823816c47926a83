use Rattle.std.proofs.Common.{None, false}
use Rattle.test_infer.proofs.GrowingLemmas.{stays, stays_not, verdict_stays}
use Rattle.test_infer.proofs.growing.stays_unknown.Goals as goal

pub returns-in-None-default-clause-row : goal.returns-in-None-default-clause-row
returns-in-None-default-clause-row c =
    let told = c.position_settled.ensures in
    stays c.args.buf.now c.position_settled.result.0 c.position_settled.result.1 told.first told.settled told.lasts None c.in-None-default.is-0

pub returns-in-None-default-clause-verdict : goal.returns-in-None-default-clause-verdict
returns-in-None-default-clause-verdict c =
    verdict_stays c.args.buf.now c.position_settled.result.1 (returns-in-None-default-clause-row c)

pub returns-in-Some-default-clause-row : goal.returns-in-Some-default-clause-row
returns-in-Some-default-clause-row c =
    let told = c.position_settled.ensures in
    stays_not c.args.buf.now c.position_settled.result.0 c.position_settled.result.1 told.first told.settled told.lasts None (λ e. let is = c.in-Some-default.is-0 in absurd (cc))

pub returns-in-Some-default-clause-verdict : goal.returns-in-Some-default-clause-verdict
returns-in-Some-default-clause-verdict c = verdict_stays c.args.buf.now false (returns-in-Some-default-clause-row c)
