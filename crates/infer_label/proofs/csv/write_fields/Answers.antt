use Rattle.infer_label.proofs.WritesLemmas.{writes_both, writes_is}
use Rattle.infer_label.proofs.csv.write_fields.Goals as goal

pub returns : goal.returns
returns c =
    writes_both c.write_type_fields.ensures (writes_both (writes_is c.encoding_field.ensures c.write_text.ensures) (writes_both c.write.ensures (writes_both c.write_named_fields.ensures (writes_both c.write_size.ensures (writes_both c.write-2.ensures (writes_both c.write_why_field.ensures c.write-3.ensures))))))
