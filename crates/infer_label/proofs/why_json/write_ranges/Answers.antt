use Rattle.std.proofs.Common.{[], ◌∷◌, codes, false, refl, subst}
use Rattle.std.proofs.lemmas.List.Concat.{flat_map_single}
use Rattle.infer_label.specs.Why.{reason_listed, why_listed}
use Rattle.infer_label.specs.WhyJson.{range_object}
use Rattle.infer_label.specs.WhyText.{in_row}
use Rattle.infer_label.specs.Writes.{Writes}
use Rattle.infer_label.proofs.WhyLemmas.{all_told, nothing_yet, one_more}
use Rattle.infer_label.proofs.why_json.write_ranges.Goals as goal

pub loop-range-init : goal.loop-range-init
loop-range-init c = nothing_yet (codes ",") false c.args.out.now

pub loop-range-preserved : goal.loop-range-preserved
loop-range-preserved c =
    one_more (codes ",") false c.args.why.now (λ r. range_object r ∷ []) c.ranges-range-items.result.now c.loop-range.range-index _ (reason_listed c.reason.result)
    c.loop-range-test.true c.loop-range.invariant c.reason.ensures c.write_range.ensures refl

pub returns : goal.returns
returns c =
    subst (λ objects. Writes c.args.out.now c.loop-range.out (in_row (codes ",") false objects)) (flat_map_single range_object (why_listed c.args.why.now).reasons)
    (all_told (codes ",") false c.args.why.now (λ r. range_object r ∷ []) c.ranges-range-items.result.now c.loop-range.range-index _
    c.loop-range-test.false c.ranges-range-items.ensures c.loop-range.invariant).0
