use Rattle.infer_sig.proofs.OpenLemmas.{signature_open}
use Rattle.infer_sig.proofs.laws.open.Goals as goal

pub returns : goal.returns
returns c = signature_open
