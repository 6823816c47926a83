use Rattle.infer.specs.First.{IsFirstOf}
use Rattle.infer.specs.Row.{Accepts}
use Rattle.infer.specs.Table.{table}
use Rattle.infer.proofs.FirstLemmas.{IsFirstOf-same}
use Rattle.test_infer.proofs.OneLemmas.{is_none, is_one}
use Rattle.test_infer.proofs.definitions.is_first.Goals as goal

pub returns-in-Some : goal.returns-in-Some
returns-in-Some c =
    let accepted = Accepts c.args.buf.now in
    is_one (IsFirstOf accepted table) (IsFirstOf-same accepted table) c.args.i c.in-Some.row c.in-Some.ensures.first

pub returns-in-None : goal.returns-in-None
returns-in-None c =
    let accepted = Accepts c.args.buf.now in is_none (IsFirstOf accepted table) (IsFirstOf-same accepted table) c.args.i c.in-None.ensures.first
