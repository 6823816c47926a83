use Rattle.std.proofs.Common.{◌≡◌, codes, subst}
use Rattle.std.specs.List.{flat_map}
use Rattle.infer_label.specs.Why.{reason_listed, why_listed}
use Rattle.infer_label.specs.WhyText.{in_row, is_other, stands_before, text_if}
use Rattle.infer_label.specs.Writes.{Writes}
use Rattle.infer_label.proofs.WhyLemmas.{all_told, nothing_yet, one_more}
use Rattle.infer_label.proofs.why_text.write_others.Goals as goal

pub loop-range-init : goal.loop-range-init
loop-range-init c = nothing_yet (codes "; ") c.args.before c.args.out.now

pub loop-range-preserved : goal.loop-range-preserved
loop-range-preserved c =
    let reason = reason_listed c.reason-reason.result in
    one_more (codes "; ") c.args.before c.args.why.now (λ r. text_if (is_other c.tells_first-first_is_told.result r) r)
    c.ranges-range-items.result.now c.loop-range.range-index _ reason c.loop-range-test.true c.loop-range.invariant c.reason-reason.ensures
    (subst (λ is. Writes c.loop-range.out c.write_if-some.new.out (in_row (codes "; ") c.loop-range.some (text_if is reason))) c.is_other.ensures c.write_if-some.ensures.texts)
    (subst (λ is. c.write_if-some.result ≡ stands_before c.loop-range.some (text_if is reason)) c.is_other.ensures c.write_if-some.ensures.before)

pub returns-clause-texts : goal.returns-clause-texts
returns-clause-texts c =
    subst (λ first. Writes c.args.out.now c.loop-range.out
    (in_row (codes "; ") c.args.before (flat_map (λ r. text_if (is_other first r) r) (why_listed c.args.why.now).reasons))) c.tells_first-first_is_told.ensures
    (all_told (codes "; ") c.args.before c.args.why.now (λ r. text_if (is_other c.tells_first-first_is_told.result r) r)
    c.ranges-range-items.result.now c.loop-range.range-index _ c.loop-range-test.false c.ranges-range-items.ensures c.loop-range.invariant).0

pub returns-clause-before : goal.returns-clause-before
returns-clause-before c =
    subst (λ first. c.loop-range.some ≡ stands_before c.args.before (flat_map (λ r. text_if (is_other first r) r) (why_listed c.args.why.now).reasons))
    c.tells_first-first_is_told.ensures
    (all_told (codes "; ") c.args.before c.args.why.now (λ r. text_if (is_other c.tells_first-first_is_told.result r) r)
    c.ranges-range-items.result.now c.loop-range.range-index _ c.loop-range-test.false c.ranges-range-items.ensures c.loop-range.invariant).1
