use Rattle.infer_more.specs.Index.{IsKeyed}
use Rattle.infer_more.proofs.FoundLemmas.{no_key}
use Rattle.infer_more.proofs.LeastLemmas.{least_none}
use Rattle.infer_more.proofs.index.search.least_object.Goals as goal

pub returns-then-dark-ne239 : goal.returns-then-dark-ne239
returns-then-dark-ne239 c =
    least_none (IsKeyed c.args.buf.now c.args.keys.now) c.args.before
    (no_key c.args.buf.now c.args.dark c.requires.first.0 c.requires.first.1 c.args.keys.now c.if-dark-ne123.true c.if-dark-ne239.true)
