use Rattle.infer_named.proofs.LeftLemmas.{each_found}
use Rattle.infer_named.proofs.laws.each_reading_is_found.Goals as goal

pub returns : goal.returns
returns c = each_found
