use Rattle.infer_sig.proofs.SignatureLemmas.{signature_near}
use Rattle.infer_sig.proofs.laws.near.Goals as goal

pub returns : goal.returns
returns c = signature_near
