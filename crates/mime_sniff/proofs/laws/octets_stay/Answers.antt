use Rattle.mime_sniff.proofs.StayLemmas.{octets_stay}
use Rattle.mime_sniff.proofs.laws.octets_stay.Goals as goal

pub returns : goal.returns
returns c s b more told later unknown binary none (q, asked, h) (r, also, g) = octets_stay s b more told later unknown binary none q r asked also h g
