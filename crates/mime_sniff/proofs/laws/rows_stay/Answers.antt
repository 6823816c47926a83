use Rattle.mime_sniff.proofs.StayLemmas.{rows_stay}
use Rattle.mime_sniff.proofs.laws.rows_stay.Goals as goal

pub returns : goal.returns
returns c s b more told later unknown some (q, asked, h) (r, also, g) = rows_stay s b more told later unknown some q r asked also h g
