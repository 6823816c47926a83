use Rattle.std.proofs.Common.{◌∙◌, ap}
use Rattle.std.specs.Fmt.{decimal}
use Rattle.infer_label.specs.WhyJson.{bool_value}
use Rattle.infer_label.proofs.WritesLemmas.{writes_both, writes_is}
use Rattle.infer_label.proofs.why_json.write_length_members.Goals as goal

pub returns : goal.returns
returns c =
    writes_both c.write.ensures (writes_both (writes_is (ap decimal c.least.ensures) c.write_number.ensures) (writes_both c.write-2.ensures (writes_both (writes_is (c.bool_value.ensures ∙ ap bool_value c.is_exact.ensures) c.write_text.ensures) (writes_both c.write-3.ensures (writes_both (writes_is (c.bool_value-2.ensures ∙ ap bool_value c.is_whole.ensures) c.write_text-2.ensures) c.write-4.ensures)))))
