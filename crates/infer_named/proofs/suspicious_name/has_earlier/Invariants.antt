use Rattle.std.proofs.Common.{◌≤◌, ℕ}
use Rattle.memchr.specs.Find.{Passes, is_byte}
use Rattle.infer_named.specs.Odd.{IsEarlier}
use Rattle.infer_named.specs.Table.{keys}
use Rattle.infer_named.proofs.suspicious_name.has_earlier.Given as goal

-- the end is a dot, and no earlier part ends after it
abbrev pub invariant-loop-start : goal.invariant-loop-start
invariant-loop-start l =
    (l.end ≤ l.last) × Passes (is_byte 0x2E) l.base l.end × ((start end : ℕ) → IsEarlier keys l.base l.last start end → end ≤ l.end)

abbrev pub decreases-loop-start : goal.decreases-loop-start
decreases-loop-start l = l.end
