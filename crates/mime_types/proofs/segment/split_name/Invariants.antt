use Rattle.std.proofs.Common.{◌≡◌, ◌+◌, drop}
use Rattle.mime_types.specs.Text.{before, ends_name}
use Rattle.mime_types.proofs.segment.split_name.Given as goal

abbrev pub invariant-loop-at : goal.invariant-loop-at
invariant-loop-at l = l.at + before ends_name (drop l.at l.text) ≡ before ends_name l.text
