use Rattle.mime_types.proofs.AgainLemmas.{again}
use Rattle.mime_types.proofs.laws.says_itself.Goals as goal

pub returns : goal.returns
returns c t m is = again t m is
