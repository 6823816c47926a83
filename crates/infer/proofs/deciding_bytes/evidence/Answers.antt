use Rattle.infer.proofs.Common.{Accepts, Some, arith, table}
use Rattle.infer.proofs.FirstLemmas.{IsFirstOf-same}
use Rattle.infer.proofs.TableLemmas.{length-table}
use Rattle.infer.proofs.deciding_bytes.evidence.Goals as goal

pub returns-in-Some-clause-few : goal.returns-in-Some-clause-few
returns-in-Some-clause-few c =
    let same = IsFirstOf-same (Accepts c.args.buf.now) table c.weigh_candidates.result (Some c.in-Some.row) c.weigh_candidates.ensures.first c.in-Some.ensures.first in
    let fewer = c.weigh_candidates.ensures.fewer same in
    let own = c.weigh_row.ensures.few in
    let none = c.clear.ensures.count in
    omega (arith, fewer, own, none)

pub returns-in-None-clause-bound : goal.returns-in-None-clause-bound
returns-in-None-clause-bound c = let first = c.weigh_candidates-in-None.ensures.first in grind (arith, length-table)
