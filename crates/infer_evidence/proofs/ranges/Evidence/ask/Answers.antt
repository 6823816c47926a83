use Rattle.infer_evidence.proofs.RangeLemmas.{same_around}
use Rattle.infer_evidence.proofs.ranges.Evidence.ask.Goals as goal

pub returns-then-has-clause-same : goal.returns-then-has-clause-same
returns-then-has-clause-same c = same_around c.args.self.now c.args.range (c.has.ensures c.if-has.true)
