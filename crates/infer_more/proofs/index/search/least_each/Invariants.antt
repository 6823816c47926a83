-- the least of the rows so far
use Rattle.infer_more.proofs.Common.{take, IsLeast, IsTried, candidates}
use Rattle.infer_more.proofs.index.search.least_each.Given as goal

abbrev pub invariant-loop-entry : goal.invariant-loop-entry
invariant-loop-entry l = IsLeast (IsTried l.parent l.buf (candidates l.buf (take l.entry-index l.entries))) l.fn.before l.least
