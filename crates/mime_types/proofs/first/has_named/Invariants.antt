use Rattle.std.proofs.Common.{◌≡◌, false}
use Rattle.std.specs.List.{list_any}
use Rattle.mime_types.specs.Parameters.{is_named}
use Rattle.mime_types.specs.Segment.{left_by, written_by}
use Rattle.mime_types.specs.Text.{lower}
use Rattle.mime_types.proofs.first.has_named.Given as goal

-- no segment before wrote one, and this is what those have left
abbrev pub invariant-loop-i : goal.invariant-loop-i
invariant-loop-i l =
    (l.rest ≡ left_by l.i l.tail) × (list_any (is_named (lower l.name)) (written_by l.i l.tail) ≡ false)
