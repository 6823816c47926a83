use Rattle.std.proofs.Common.{◌≡◌, length}
use Rattle.mime_types.specs.Text.{after_tokens}
use Rattle.mime_types.proofs.text.after_tokens.Given as goal

abbrev pub invariant-loop-rest : goal.invariant-loop-rest
invariant-loop-rest l = after_tokens l.rest ≡ after_tokens l.text

abbrev pub decreases-loop-rest : goal.decreases-loop-rest
decreases-loop-rest l = length l.rest
