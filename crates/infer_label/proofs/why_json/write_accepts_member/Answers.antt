use Rattle.infer_label.proofs.WritesLemmas.{writes_both, writes_is}
use Rattle.infer_label.proofs.why_json.write_accepts_member.Goals as goal

pub returns : goal.returns
returns c =
    writes_both c.write.ensures (writes_both (writes_is c.bool_value.ensures c.write_text.ensures) c.write-2.ensures)
