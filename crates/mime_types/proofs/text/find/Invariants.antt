use Rattle.std.proofs.Common.{◌≡◌, ◌+◌, ◌==◌, drop}
use Rattle.mime_types.specs.Text.{before}
use Rattle.mime_types.proofs.text.find.Given as goal

abbrev pub invariant-loop-at : goal.invariant-loop-at
invariant-loop-at l = l.at + before (λ x. x == l.byte) (drop l.at l.text) ≡ before (λ x. x == l.byte) l.text
