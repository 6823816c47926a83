use Rattle.std.proofs.Common.{◌++◌}
use Rattle.test_infer.proofs.laws.can_stay_decided.Goals as goal

pub returns : goal.returns
returns c =
    let decided = c.is_decided.ensures.can_be c.requires in
    (decided.0, λ rest bytes. c.later.ensures.lasts (c.args.buf.now ++ decided.0) rest bytes decided.2)
