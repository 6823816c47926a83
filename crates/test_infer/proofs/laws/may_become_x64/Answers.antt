use Rattle.std.proofs.Common.{[], arith}
use Rattle.infer.specs.BuiltIn.{fixed}
use Rattle.infer.specs.Matchers.{signatures}
use Rattle.infer.specs.Table.{table}
use Rattle.test_infer.proofs.laws.may_become_x64.Goals as goal

-- the matcher after those of the rows and that for i386
pub returns : goal.returns
unfolding signatures table
returns c = c.open.ensures 99 (fixed []) (omega arith) c.args.buf.now c.may_become.result c.may_become.ensures
