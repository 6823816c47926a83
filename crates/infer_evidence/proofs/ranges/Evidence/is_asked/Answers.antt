use Rattle.infer_evidence.proofs.RangeLemmas.{same_around}
use Rattle.infer_evidence.proofs.ranges.Evidence.is_asked.Goals as goal

pub returns : goal.returns
returns c = λ yes b d agrees. c.new.ensures.reads b d (same_around c.args.self.now c.new.result (c.has_near.ensures yes) b d agrees).1
