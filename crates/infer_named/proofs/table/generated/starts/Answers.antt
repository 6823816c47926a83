use Rattle.std.proofs.Common.{refl}
use Rattle.infer_named.specs.Slots.{starts}
use Rattle.infer_named.proofs.table.generated.starts.Goals as goal

pub returns-clause-value : goal.returns-clause-value
unfolding starts
returns-clause-value c = refl

pub returns-clause-many : goal.returns-clause-many
returns-clause-many c = refl
