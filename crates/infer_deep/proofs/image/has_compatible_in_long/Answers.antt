use Rattle.infer_deep.proofs.Common.{arith}
use Rattle.infer_deep.proofs.BrandLemmas.{compatible_below}
use Rattle.infer_deep.proofs.image.has_compatible_in_long.Goals as goal

pub returns-else-has_one : goal.returns-else-has_one
returns-else-has_one c =
    let one = compatible_below c.args.buf.now c.args.one.now c.loop-k.k c.told-one c.requires (grind arith) in
    let other = compatible_below c.args.buf.now c.args.other.now c.loop-k.k c.told-other c.requires (grind arith) in
    grind (arith, one, other, c.loop-k.invariant)
