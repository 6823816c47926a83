use Rattle.infer_named.proofs.ReachLemmas.{each_reached}
use Rattle.infer_named.proofs.laws.each_key_is_reached.Goals as goal

pub returns : goal.returns
returns c = each_reached
