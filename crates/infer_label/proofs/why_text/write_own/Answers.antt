use Rattle.std.proofs.Common.{codes, false}
use Rattle.infer_label.specs.Why.{reason_listed}
use Rattle.infer_label.specs.WhyText.{text_if}
use Rattle.infer_label.proofs.WhyLemmas.{all_told, nothing_yet, one_more}
use Rattle.infer_label.proofs.why_text.write_own.Goals as goal

pub loop-range-init : goal.loop-range-init
loop-range-init c = nothing_yet (codes "; ") false c.args.out.now

pub loop-range-preserved : goal.loop-range-preserved
loop-range-preserved c =
    one_more (codes "; ") false c.args.why.now (λ r. text_if r.accepts r) c.ranges-range-items.result.now c.loop-range.range-index _ (reason_listed c.reason-reason.result)
    c.loop-range-test.true c.loop-range.invariant c.reason-reason.ensures c.write_if-before.ensures.texts c.write_if-before.ensures.before

pub returns-clause-texts : goal.returns-clause-texts
returns-clause-texts c =
    (all_told (codes "; ") false c.args.why.now (λ r. text_if r.accepts r) c.ranges-range-items.result.now c.loop-range.range-index _
    c.loop-range-test.false c.ranges-range-items.ensures c.loop-range.invariant).0

pub returns-clause-before : goal.returns-clause-before
returns-clause-before c =
    (all_told (codes "; ") false c.args.why.now (λ r. text_if r.accepts r) c.ranges-range-items.result.now c.loop-range.range-index _
    c.loop-range-test.false c.ranges-range-items.ensures c.loop-range.invariant).1
