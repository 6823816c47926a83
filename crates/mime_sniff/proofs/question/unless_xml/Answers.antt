use Rattle.std.proofs.Common.{inr, refl}
use Rattle.mime_sniff.proofs.question.unless_xml.Goals as goal

pub returns : goal.returns
returns c = inr (λ is. let t = c.is_xml.ensures.1 is in cc, refl)
