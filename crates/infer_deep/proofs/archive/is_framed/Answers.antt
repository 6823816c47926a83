use Rattle.infer_deep.proofs.Common.{arith}
use Rattle.infer_deep.proofs.FrameLemmas.{IsFramed-left}
use Rattle.infer_deep.proofs.archive.is_framed.Goals as goal

pub returns : goal.returns
returns c =
    let after = c.after_frames.ensures in grind (arith, IsFramed-left c.args.magic.now (omega arith) c.requires _ _ after.skips after.stops)
