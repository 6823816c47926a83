use Rattle.infer_named.proofs.TableLemmas.{all_right}
use Rattle.infer_named.proofs.laws.keys_are_right.Goals as goal

pub returns : goal.returns
returns c = all_right
