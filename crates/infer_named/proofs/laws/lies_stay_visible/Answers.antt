use Rattle.infer_named.proofs.LawLemmas.{lies_visible}
use Rattle.infer_named.proofs.laws.lies_stay_visible.Goals as goal

pub returns : goal.returns
returns c = lies_visible
