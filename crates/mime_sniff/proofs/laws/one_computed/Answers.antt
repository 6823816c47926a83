use Rattle.mime_sniff.proofs.DecidedLemmas.{same_computed}
use Rattle.mime_sniff.proofs.laws.one_computed.Goals as goal

pub returns : goal.returns
returns c s b t u h g = same_computed s b t u h g
