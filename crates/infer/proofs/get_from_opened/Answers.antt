use Rattle.infer.proofs.BuiltInLemmas.{opened_as_built_in}
use Rattle.infer.proofs.get_from_opened.Goals as goal

pub returns : goal.returns
returns g c =
    opened_as_built_in c.new.result c.new.ensures g.R.Read.remaining c.args.n c.args.opened.now c.get_from_opened.new.opened c.get_from_opened.result
    c.get_from_opened.ensures
