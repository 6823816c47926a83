use Rattle.infer_evidence.proofs.OpenLemmas.{agrees_without}
use Rattle.infer_evidence.proofs.more_bytes.agrees.Goals as goal

pub returns : goal.returns
returns c =
    agrees_without c.args.place c.args.text.now c.args.buf.now c.difference.result c.is_none.result c.is_none.ensures c.difference.ensures.some c.difference.ensures.none
