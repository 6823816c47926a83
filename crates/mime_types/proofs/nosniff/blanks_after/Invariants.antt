use Rattle.std.proofs.Common.{◌≡◌, length, true, get_or, ℕ, ◌≤◌, ◌<◌}
use Rattle.mime_types.specs.Nosniff.{is_blank}
use Rattle.mime_types.proofs.nosniff.blanks_after.Given as goal

abbrev pub invariant-loop-end : goal.invariant-loop-end
invariant-loop-end l = (k : ℕ) → l.end ≤ k → k < length l.text → is_blank (get_or l.text k 0) ≡ true
