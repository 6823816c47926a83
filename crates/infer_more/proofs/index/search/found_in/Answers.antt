use Rattle.infer_more.proofs.Common.{None, Some, arith, refl}
use Rattle.infer_more.proofs.LeastLemmas.{first_found, none_found}
use Rattle.infer_more.proofs.index.search.found_in.Goals as goal

pub returns-then-least-lt-FURTHER_COUNT : goal.returns-then-least-lt-FURTHER_COUNT
returns-then-least-lt-FURTHER_COUNT c = (Some c.least_in-least.result, first_found (Some c.args.row) c.args.buf.now _ c.least_in-least.ensures (omega arith), refl)

pub returns-else-least-lt-FURTHER_COUNT : goal.returns-else-least-lt-FURTHER_COUNT
returns-else-least-lt-FURTHER_COUNT c = (None, none_found (Some c.args.row) c.args.buf.now _ c.least_in-least.ensures (omega arith), refl)
