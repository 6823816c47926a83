use Rattle.infer.proofs.Common.{MayBecomeRow, arith, nat_tests, table}
use Rattle.infer.proofs.CandidateLemmas.{read_has}
use Rattle.infer.proofs.TableLemmas.{length-table}
use Rattle.infer.proofs.decided.may_become.Goals as goal

pub returns-else-row-lt-ROW_COUNT : goal.returns-else-row-lt-ROW_COUNT
returns-else-row-lt-ROW_COUNT c =
    let past = c.if-row-lt-ROW_COUNT.false in
    (λ t. absurd (grind (arith, nat_tests)), λ has. absurd (let inside = ((read_has (MayBecomeRow c.args.buf.now) table c.args.row).0 has).0 in omega (arith, length-table)))
