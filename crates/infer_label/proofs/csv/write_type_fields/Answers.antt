use Rattle.infer_label.proofs.WritesLemmas.{writes_both, writes_is}
use Rattle.infer_label.proofs.csv.write_type_fields.Goals as goal

pub returns : goal.returns
returns c =
    writes_both c.write_mime_field.ensures (writes_both c.write.ensures (writes_both (writes_is c.or_none.ensures c.write_text.ensures) (writes_both c.write-2.ensures (writes_both (writes_is c.class_field.ensures c.write_text-2.ensures) c.write-3.ensures))))
