use Rattle.std.proofs.Common.{◌≡◌, ℕ, ◌<◌, ◌≤◌, get_or}
use Rattle.mime_sniff.proofs.webm.names_webm.Given as goal

-- all bytes before this one are 00
abbrev pub invariant-loop-at : goal.invariant-loop-at
invariant-loop-at l = (k : ℕ) → l.place ≤ k → k < l.at → get_or l.buf k 0 ≡ 0
