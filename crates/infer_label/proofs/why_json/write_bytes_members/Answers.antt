use Rattle.infer_label.proofs.WritesLemmas.{writes_both}
use Rattle.infer_label.proofs.why_json.write_bytes_members.Goals as goal

pub returns : goal.returns
returns c =
    writes_both c.write.ensures (writes_both c.write_number.ensures (writes_both c.write-2.ensures (writes_both c.write_number-2.ensures (writes_both c.write-3.ensures (writes_both c.write_number-3.ensures (writes_both c.write-4.ensures c.write_bytes_value.ensures))))))
