use Rattle.infer_more.proofs.Common.{false≢true, IsRooted}
use Rattle.infer_more.proofs.FoundLemmas.{root_may}
use Rattle.infer_more.proofs.LeastLemmas.{least_none}
use Rattle.infer_more.proofs.index.search.least_begun_markup.Goals as goal

pub returns-then-not-may_be_rooted : goal.returns-then-not-may_be_rooted
returns-then-not-may_be_rooted c =
    least_none (IsRooted c.args.buf.now c.args.roots.now) c.args.before
    (λ i (name, rest, element, is). false≢true (c.if-not-may_be_rooted.ensures.1 (root_may c.args.buf.now c.leads.ensures name rest element)))
