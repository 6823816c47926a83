use Rattle.std.proofs.Common.{◌∙◌, sym}
use Rattle.infer_label.specs.Why.{reason_listed}
use Rattle.infer_label.specs.WhyText.{has_first}
use Rattle.infer_label.proofs.WhyLemmas.{none_at_all, some_here}
use Rattle.infer_label.proofs.why_text.tells_first.Goals as goal

pub returns-then-has_first : goal.returns-then-has_first
returns-then-has_first c =
    sym (some_here c.args.why.now has_first c.ranges-range-items.result.now c.loop-range.range-index _ (reason_listed c.reason.result) _
    c.loop-range-test.true c.ranges-range-items.ensures c.reason.ensures (sym c.has_first.ensures ∙ c.if-has_first.true))

pub returns : goal.returns
returns c = sym (none_at_all c.args.why.now has_first c.ranges-range-items.result.now c.loop-range.range-index _ c.loop-range-test.false c.ranges-range-items.ensures c.loop-range.invariant)
