-- the bytes so far are passed, and what is left decides
use Rattle.std.proofs.Common.{◌≡◌, ◌<◌, ◌≤◌, ◌&&◌, length}
use Rattle.infer_named.specs.Parts.{are_parts_from}
use Rattle.infer_named.proofs.names.are_parts.Given as goal

abbrev pub invariant-loop-i : goal.invariant-loop-i
invariant-loop-i l = (0 < l.i) × (l.i ≤ length l.text) × ((l.all && are_parts_from l.text l.i) ≡ are_parts_from l.text 1)
