use Rattle.mime_sniff.proofs.DecidedLemmas.{decided_full}
use Rattle.mime_sniff.proofs.laws.decides_when_full.Goals as goal

pub returns : goal.returns
returns c s b full = decided_full s b full
