use Rattle.infer_deep.proofs.Common.{IsFrame}
use Rattle.std.proofs.lemmas.Option.{IfSome_then}
use Rattle.infer_deep.proofs.JoinedLemmas.{leads_past}
use Rattle.infer_deep.proofs.archive.after_frame_block.Goals as goal

pub returns-clause-leads : goal.returns-clause-leads
returns-clause-leads c =
    let b = c.args.buf.now in
    let first = leads_past IsFrame b b _ (λ rest s. s) c.in_ok-first.ensures.begins in
    let second = leads_past IsFrame b _ _ first c.in_ok-second.ensures.begins in
    let third = leads_past IsFrame b _ _ second c.in_ok-third.ensures.begins in
    IfSome_then c.after_empty_frame-4.result c.after_empty_frame-4.ensures.begins (λ rest h. leads_past IsFrame b _ _ third h)
