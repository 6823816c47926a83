use Rattle.std.proofs.Common.{◌↔◌, ◌-◌}
use Rattle.mime_sniff.specs.Webm.{HoldsFrom}
use Rattle.mime_sniff.proofs.webm.holds_from.Given as goal

-- what a place from here on holds, a place from the first on holds
abbrev pub invariant-loop-place : goal.invariant-loop-place
invariant-loop-place l = HoldsFrom l.buf l.place ↔ HoldsFrom l.buf l.first

abbrev pub decreases-loop-place : goal.decreases-loop-place
decreases-loop-place l = 38 - l.place
