use Rattle.std.proofs.Common.{◌≡◌, ◌∷◌, drop, MatchOption}
use Rattle.infer_named.specs.Bytes.{shown, without_white}
use Rattle.infer_named.proofs.bytes.first_visible.Given as goal

-- what is left is visible first, or after the first byte
abbrev pub invariant-loop-byte : goal.invariant-loop-byte
invariant-loop-byte l = MatchOption l.first
    (without_white (shown l.skips_zeros (drop l.byte-index l.bytes)) ≡ without_white (shown l.skips_zeros l.bytes))
    (λ x. x ∷ shown l.skips_zeros (drop l.byte-index l.bytes) ≡ without_white (shown l.skips_zeros l.bytes))
