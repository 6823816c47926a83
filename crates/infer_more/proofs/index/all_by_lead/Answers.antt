use Rattle.infer_more.proofs.Common.{refl}
use Rattle.infer_more.proofs.FoundLemmas.{finds_by_lead}
use Rattle.infer_more.proofs.ByLeadLemmas.{each_left}
use Rattle.infer_more.proofs.index.all_by_lead.Goals as goal

pub returns : goal.returns
returns c = finds_by_lead c.by_place.ensures c.leads.ensures _ (each_left _ refl refl refl refl refl)
