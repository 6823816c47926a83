use Rattle.infer_sig.proofs.ListLemmas.{list_any_passes}
use Rattle.infer_sig.proofs.SignatureLemmas.{alternative_leads}
use Rattle.infer_sig.proofs.laws.leads.Goals as goal

pub returns : goal.returns
returns c = λ s f rest h. list_any_passes _ _ (alternative_leads f rest) s h
