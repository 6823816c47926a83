use Rattle.infer_label.proofs.WritesLemmas.{writes_both}
use Rattle.infer_label.proofs.line.write_named.Goals as goal

pub returns-in-Some : goal.returns-in-Some
returns-in-Some c = rw c.in-Some.is (writes_both c.write.ensures c.write_text.ensures)
