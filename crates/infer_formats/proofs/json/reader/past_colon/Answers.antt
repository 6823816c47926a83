use Rattle.infer_formats.proofs.OnwardLemmas.{colon_past}
use Rattle.infer_formats.proofs.json.reader.past_colon.Goals as goal

pub returns-then-buf-at-eq58 : goal.returns-then-buf-at-eq58
returns-then-buf-at-eq58 c = colon_past c.args.buf.now c.args.at c.if-at-buf.true c.if-buf-at-eq58.true
