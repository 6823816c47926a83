use Rattle.std.proofs.Common.{◌≡◌, drop}
use Rattle.std.specs.List.{list_any}
use Rattle.infer_named.specs.Join.{has_row}
use Rattle.infer_named.specs.Listed.{range_listed}
use Rattle.infer_named.proofs.rows.has_row.Given as goal

-- what is left has it exactly if all has
abbrev pub invariant-loop-range : goal.invariant-loop-range
invariant-loop-range l =
    list_any (λ range. has_row (range_listed range) l.extension l.mime_type) (drop l.range-index l.range-items)
    ≡ list_any (λ range. has_row (range_listed range) l.extension l.mime_type) l.range-items
