-- the least of the rows so far
use Rattle.infer_more.proofs.Common.{None, take, IsLeast, IsTried}
use Rattle.infer_more.specs.Index.{all_of, tried_at}
use Rattle.infer_more.proofs.index.search.least_spotted.Given as goal

abbrev pub invariant-loop-spot : goal.invariant-loop-spot
invariant-loop-spot l = IsLeast (IsTried None l.buf (all_of (tried_at l.index l.buf) (take l.spot-index l.spots))) l.fn.before l.least
