use Rattle.infer_deep.proofs.Common.{arith}
use Rattle.infer_deep.proofs.OfficeLemmas.{IsOffice-at}
use Rattle.infer_deep.proofs.doc.is_office.Goals as goal

pub returns-in-Some : goal.returns-in-Some
returns-in-Some g c = grind (arith, IsOffice-at c.args.buf.now c.args.folder.now c.in-Some.place c.in-Some.ensures)

pub returns-in-None : goal.returns-in-None
returns-in-None g c = (λ is. absurd (cc), λ (p, d, o). absurd (c.in-None.ensures p d))
