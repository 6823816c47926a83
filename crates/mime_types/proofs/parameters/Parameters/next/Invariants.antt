use Rattle.std.proofs.Common.{◌≡◌, length}
use Rattle.mime_types.specs.Left.{left, text_read}
use Rattle.mime_types.proofs.parameters.Parameters.next.Given as goal

abbrev pub invariant-loop-count : goal.invariant-loop-count
invariant-loop-count l = (left l.self ≡ left l.initial.self) × (text_read l.self ≡ text_read l.initial.self)

abbrev pub decreases-loop-count : goal.decreases-loop-count
decreases-loop-count l = length l.self.rest.now
