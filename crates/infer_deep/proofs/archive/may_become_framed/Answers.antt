use Rattle.infer_deep.proofs.Common.{arith}
use Rattle.infer_deep.proofs.OpenLemmas.{test_from_reads}
use Rattle.infer_deep.proofs.FrameLemmas.{is_framed_open}
use Rattle.infer_deep.proofs.archive.may_become_framed.Goals as goal

pub returns-then-agrees_at : goal.returns-then-agrees_at
returns-then-agrees_at c =
    let rest = c.after_frames-rest.ensures in
    grind (arith, is_framed_open c.args.magic.now (omega arith) c.requires (test_from_reads _ c.fits-magic) _ _ rest.skips rest.stops)

pub returns-else-agrees_at : goal.returns-else-agrees_at
returns-else-agrees_at c =
    let rest = c.after_frames-rest.ensures in
    grind (arith, is_framed_open c.args.magic.now (omega arith) c.requires (test_from_reads _ c.fits-magic) _ _ rest.skips rest.stops)
