use Rattle.infer_sig.proofs.ListLemmas.{list_any_passes}
use Rattle.infer_sig.proofs.SignatureLemmas.{alternative_lasts}
use Rattle.infer_sig.proofs.laws.growth.Goals as goal

pub returns : goal.returns
returns c = λ s b more h. list_any_passes _ _ (alternative_lasts b more) s h
