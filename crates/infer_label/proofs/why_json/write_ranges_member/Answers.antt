use Rattle.infer_label.proofs.WritesLemmas.{writes_both}
use Rattle.infer_label.proofs.why_json.write_ranges_member.Goals as goal

pub returns : goal.returns
returns c =
    writes_both c.write.ensures c.write_ranges.ensures
