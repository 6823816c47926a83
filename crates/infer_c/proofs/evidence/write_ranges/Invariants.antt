use Rattle.std.proofs.Common.{◌≡◌, map}
use Rattle.infer_c.specs.Evidence.{range_written}
use Rattle.infer_c.proofs.RangeLemmas.{written}
use Rattle.infer_c.proofs.evidence.write_ranges.Given as goal

abbrev pub invariant-loop-k : goal.invariant-loop-k
invariant-loop-k l = l.room ≡ written (map range_written l.ranges) l.initial.room l.k
