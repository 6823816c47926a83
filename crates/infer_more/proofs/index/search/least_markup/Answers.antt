use Rattle.infer_more.proofs.Common.{IsRooted}
use Rattle.infer_more.proofs.FoundLemmas.{no_root}
use Rattle.infer_more.proofs.LeastLemmas.{least_none}
use Rattle.infer_more.proofs.index.search.least_markup.Goals as goal

pub returns-then-dark-ne239 : goal.returns-then-dark-ne239
returns-then-dark-ne239 c =
    least_none (IsRooted c.args.buf.now c.args.roots.now) c.args.before
    (no_root c.args.buf.now c.leads.ensures c.args.dark c.requires.first.0 c.requires.first.1 c.args.roots.now c.if-dark-ne60.true c.if-dark-ne239.true)
