use Rattle.infer_more.proofs.Common.{refl}
use Rattle.infer_more.proofs.ParentlessLemmas.{each_found}
use Rattle.infer_more.proofs.index.without_parent.Goals as goal

pub returns : goal.returns
returns c = each_found _ refl refl refl refl
