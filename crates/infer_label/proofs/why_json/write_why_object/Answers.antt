use Rattle.std.proofs.Common.{subst}
use Rattle.infer_label.specs.WhyJson.{answer_member}
use Rattle.infer_label.specs.Writes.{Writes}
use Rattle.infer_label.proofs.WritesLemmas.{writes_both}
use Rattle.infer_label.proofs.why_json.write_why_object.Goals as goal

pub returns : goal.returns
returns c =
    writes_both (subst (λ row. Writes c.args.out.now c.write_answer_member.new.out (answer_member row)) c.answer.ensures c.write_answer_member.ensures)
    (writes_both c.write_ranges_member.ensures c.write_length_members.ensures)
