use Rattle.std.proofs.Common.{◌≡◌, drop, map}
use Rattle.infer_named.specs.Join.{has_row}
use Rattle.infer_named.specs.Listed.{row_text}
use Rattle.infer_named.proofs.rows.is_in.Given as goal

-- what is left has it exactly if all has
abbrev pub invariant-loop-span : goal.invariant-loop-span
invariant-loop-span l =
    has_row (map row_text (drop l.span-index l.span-items)) l.extension l.mime_type ≡ has_row (map row_text l.span-items) l.extension l.mime_type
