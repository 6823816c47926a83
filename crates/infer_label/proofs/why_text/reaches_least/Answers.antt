use Rattle.std.proofs.Common.{◌∙◌, ap, sym}
use Rattle.std.specs.List.{list_any}
use Rattle.infer_label.specs.Why.{reason_listed, why_listed}
use Rattle.infer_label.specs.WhyText.{reaches}
use Rattle.infer_label.proofs.WhyLemmas.{none_at_all, some_here}
use Rattle.infer_label.proofs.why_text.reaches_least.Goals as goal

pub returns-then-reaches : goal.returns-then-reaches
returns-then-reaches c =
    sym (ap (λ n. list_any (reaches n) (why_listed c.args.why.now).reasons) (sym c.least-least.ensures)
    ∙ some_here c.args.why.now (reaches c.least-least.result) c.ranges-range-items.result.now c.loop-range.range-index _ (reason_listed c.reason.result) _
    c.loop-range-test.true c.ranges-range-items.ensures c.reason.ensures (sym c.reaches.ensures ∙ c.if-reaches.true))

pub returns : goal.returns
returns c =
    sym (ap (λ n. list_any (reaches n) (why_listed c.args.why.now).reasons) (sym c.least-least.ensures)
    ∙ none_at_all c.args.why.now (reaches c.least-least.result) c.ranges-range-items.result.now c.loop-range.range-index _
    c.loop-range-test.false c.ranges-range-items.ensures c.loop-range.invariant)
