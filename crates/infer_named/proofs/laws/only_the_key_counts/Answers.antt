use Rattle.infer_named.proofs.LawLemmas.{key_counts}
use Rattle.infer_named.proofs.laws.only_the_key_counts.Goals as goal

pub returns : goal.returns
returns c = key_counts
