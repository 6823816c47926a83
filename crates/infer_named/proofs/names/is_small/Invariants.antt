use Rattle.std.proofs.Common.{◌≡◌, ◌<◌, ℕ, get_or, length}
use Rattle.std.specs.Char.{to_ascii_lowercase}
use Rattle.infer_named.proofs.names.is_small.Given as goal

-- the bytes before are alike
abbrev pub invariant-loop-i : goal.invariant-loop-i
invariant-loop-i l = (l.i-end ≡ length l.text) × (length l.text ≡ length l.other) × ((k : ℕ) → k < l.i → to_ascii_lowercase (get_or l.text k 0) ≡ get_or l.other k 0)
