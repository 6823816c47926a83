use Rattle.infer_named.proofs.NamedRows.{each_named}
use Rattle.infer_named.proofs.laws.each_row_is_named.Goals as goal

pub returns : goal.returns
returns c = each_named
