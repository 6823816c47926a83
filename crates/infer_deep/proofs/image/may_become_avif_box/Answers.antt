use Rattle.infer_deep.proofs.Common.{arith}
use Rattle.infer_deep.proofs.BrandLemmas.{avif_reached, avif_known}
use Rattle.infer_deep.proofs.image.may_become_avif_box.Goals as goal

pub returns-else-may_have_compatible : goal.returns-else-may_have_compatible
returns-else-may_have_compatible c = grind (arith, avif_reached c.args.buf.now, avif_known c.args.buf.now)
