use Rattle.infer_more.proofs.OpenLemmas.{many_stay}
use Rattle.infer_more.proofs.more_bytes.stays_accepted.Goals as goal

pub returns-in_default-2 : goal.returns-in_default-2
returns-in_default-2 c =
    λ is. many_stay c.lasting.ensures.lasting c.args.signature.now c.in_default.len_at_least c.requires.known c.args.buf.now c.requires.accepts
