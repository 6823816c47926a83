use Rattle.infer_evidence.proofs.Common.{arith}
use Rattle.infer_evidence.proofs.RangeLemmas.{reads_in_a_row, same_read}
use Rattle.infer_evidence.proofs.ranges.Evidence.front.Goals as goal

pub returns-in-Some : goal.returns-in-Some
returns-in-Some c = λ b d agrees.
    let range = c.in-Some.range.now in
    let found = c.in-Some.ensures.lookup.3 in
    reads_in_a_row range 0 range.len (omega arith) (omega arith) (omega arith) b d
    (same_read c.args.self.now c.ranges-2.result.now c.from.result range c.ranges-2.ensures found.0 (found.1 range) b d agrees)
