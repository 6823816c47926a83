use Rattle.infer_named.proofs.PlacedLemmas.{keys_listed}
use Rattle.infer_named.proofs.table.generated.all_keys.Goals as goal

pub returns : goal.returns
returns c = keys_listed
