use Rattle.infer_evidence.proofs.Common.{refl}
use Rattle.infer_evidence.proofs.RangeLemmas.{reads_in_a_row}
use Rattle.infer_evidence.proofs.ranges.Range.new.Goals as goal

pub returns-clause-reads : goal.returns-clause-reads
returns-clause-reads c = reads_in_a_row (record { place = c.args.place; len = c.args.len; step = 1; row = c.number.result }) c.args.place c.args.len refl refl refl
