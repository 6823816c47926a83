use Rattle.infer_label.proofs.WritesLemmas.{writes_both}
use Rattle.infer_label.proofs.why_json.write_row_members.Goals as goal

pub returns : goal.returns
returns c =
    writes_both c.write.ensures
    (writes_both c.write_extension_of.ensures c.write_accepts_member.ensures)
