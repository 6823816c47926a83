use Rattle.infer_deep.proofs.Common.{arith}
use Rattle.infer_deep.proofs.OfficeLemmas.{no_second}
use Rattle.infer_deep.proofs.doc.third_header.Goals as goal

pub returns-in_err-second : goal.returns-in_err-second
returns-in_err-second c = no_second _ _ (grind arith) _ c.from_residual-in_err-second.ensures c.in_err-second.ensures
