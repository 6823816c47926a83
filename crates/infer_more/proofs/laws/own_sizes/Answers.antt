use Rattle.infer_more.proofs.OwnSizeLemmas.{own_texts_fit}
use Rattle.infer_more.proofs.laws.own_sizes.Goals as goal

pub returns : goal.returns
returns c = own_texts_fit c.sizes.ensures
