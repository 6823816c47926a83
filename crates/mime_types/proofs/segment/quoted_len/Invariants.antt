use Rattle.std.proofs.Common.{◌≡◌, ◌+◌, ◌-◌, ◌≤◌, drop, length}
use Rattle.mime_types.specs.Segment.{quoted_len}
use Rattle.mime_types.proofs.segment.quoted_len.Given as goal

-- what is left has the closing quote so much nearer
abbrev pub invariant-loop-at : goal.invariant-loop-at
invariant-loop-at l = (l.at ≤ length l.text) × (l.at + quoted_len (drop l.at l.text) ≡ quoted_len l.text)

abbrev pub decreases-loop-at : goal.decreases-loop-at
decreases-loop-at l = length l.text - l.at
