use Rattle.mime_sniff.proofs.DecidedLemmas.{decided_stays}
use Rattle.mime_sniff.proofs.laws.decided_stays.Goals as goal

pub returns : goal.returns
returns c s b more told decided is = decided_stays s b more told decided is
