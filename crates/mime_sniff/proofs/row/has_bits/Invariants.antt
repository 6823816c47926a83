use Rattle.std.proofs.Common.{◌≡◌, ℕ, ◌<◌, ◌≤◌, bit_and, get_or, length}
use Rattle.mime_sniff.specs.Row.{mask_at}
use Rattle.mime_sniff.proofs.row.has_bits.Given as goal

-- from here on the text has the bits that the mask asks
abbrev pub invariant-loop-i : goal.invariant-loop-i
invariant-loop-i l = (k : ℕ) → l.i ≤ k → k < length l.row.pattern.now → bit_and (get_or l.text k 0) (mask_at l.row.mask.now k) ≡ get_or l.row.pattern.now k 0
