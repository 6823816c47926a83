use Rattle.std.proofs.Common.{◌≡◌, ℕ, false, length}
use Rattle.std.specs.List.{list_any}
use Rattle.mime_types.specs.Named.{first_value}
use Rattle.mime_types.specs.Parameters.{is_named}
use Rattle.mime_types.specs.Segment.{left_by, written, written_by}
use Rattle.mime_types.specs.Text.{lower}
use Rattle.mime_types.proofs.mime_type.MimeType.parameter.Given as goal

-- the first value of what is left is that of all, and no segment before writes a parameter with the name
abbrev pub invariant-loop-rest : goal.invariant-loop-rest
invariant-loop-rest l =
    (first_value (lower l.name) (written l.rest) ≡ first_value (lower l.name) (written l.self.tail.now)) × (n : ℕ) × (l.rest ≡ left_by n l.self.tail.now)
    × (list_any (is_named (lower l.name)) (written_by n l.self.tail.now) ≡ false)

abbrev pub decreases-loop-rest : goal.decreases-loop-rest
decreases-loop-rest l = length l.rest
