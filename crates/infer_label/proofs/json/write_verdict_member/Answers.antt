use Rattle.std.proofs.Common.{sym}
use Rattle.infer_label.proofs.json.write_verdict_member.Goals as goal

pub returns-in-Some : goal.returns-in-Some
returns-in-Some c = rw c.in-Some.is (rw (sym c.verdict_name.ensures) c.write_member.ensures)
