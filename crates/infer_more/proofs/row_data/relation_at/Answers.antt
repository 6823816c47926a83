use Rattle.infer_more.proofs.ListedLemmas.{no_relation, relation_read}
use Rattle.infer_more.proofs.row_data.relation_at.Goals as goal

pub returns-in_default : goal.returns-in_default
returns-in_default c = no_relation c.args.number c.in_default.ensures

pub returns : goal.returns
returns c = relation_read c.args.number _ c.in-Some.ensures
