use Rattle.infer.proofs.BuiltInLemmas.{answers_as_built_in}
use Rattle.infer.proofs.get_from_path.Goals as goal

pub returns : goal.returns
returns g c = (answers_as_built_in c.new.result c.new.ensures).file _ c.get_from_path.result c.get_from_path.ensures
