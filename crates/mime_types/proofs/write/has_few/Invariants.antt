use Rattle.std.proofs.Common.{◌≡◌, ◌+◌, ◌≤◌, length}
use Rattle.mime_types.specs.Segment.{written}
use Rattle.mime_types.specs.declared.write.TheConstants.{MOST_PARAMETERS}
use Rattle.mime_types.proofs.write.has_few.Given as goal

abbrev pub invariant-loop-rest : goal.invariant-loop-rest
invariant-loop-rest l = (l.count + length (written l.rest) ≡ length (written l.tail)) × (l.count ≤ MOST_PARAMETERS)

abbrev pub decreases-loop-rest : goal.decreases-loop-rest
decreases-loop-rest l = length l.rest
