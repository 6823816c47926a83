use Rattle.std.proofs.Common.{◌++◌, append-nil, codes, subst, sym}
use Rattle.infer_label.specs.Why.{reason_listed}
use Rattle.infer_label.specs.WhyJson.{range_object}
use Rattle.infer_label.specs.WhyText.{mark_if}
use Rattle.infer_label.specs.Writes.{Writes}
use Rattle.infer_label.proofs.WritesLemmas.{writes_both}
use Rattle.infer_label.proofs.why_json.write_range.Goals as goal

pub returns : goal.returns
returns c =
    subst (λ object. Writes c.args.out.now c.write_object.new.out (mark_if c.args.before (codes ",") ++ object)) (sym (append-nil (range_object (reason_listed c.args.reason.now))))
    (writes_both c.write_comma.ensures c.write_object.ensures)
