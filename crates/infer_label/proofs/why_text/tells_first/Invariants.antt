use Rattle.std.proofs.Common.{◌≡◌, false, take}
use Rattle.std.specs.List.{list_any}
use Rattle.infer_label.specs.WhyText.{has_first}
use Rattle.infer_label.proofs.WhyLemmas.{reason_in}
use Rattle.infer_label.proofs.why_text.tells_first.Given as goal

-- no range so far
abbrev pub invariant-loop-range : goal.invariant-loop-range
invariant-loop-range l = list_any (λ r. has_first (reason_in l.why r)) (take l.range-index l.range-items) ≡ false
