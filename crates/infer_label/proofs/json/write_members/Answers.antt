use Rattle.infer_label.proofs.WritesLemmas.{writes_both}
use Rattle.infer_label.proofs.json.write_members.Goals as goal

pub returns : goal.returns
returns c =
    writes_both c.write_type_members.ensures (writes_both c.write_empty_member.ensures (writes_both c.write_encoding_member.ensures (writes_both c.write_standing_member.ensures (writes_both c.write_verdict_member.ensures c.write_named_member.ensures))))
