use Rattle.std.proofs.Common.{None, Some, refl}
use Rattle.infer_named.proofs.names.maker_key.Goals as goal

pub returns-in-Some : goal.returns-in-Some
returns-in-Some c = (Some c.in-Some.place, c.in-Some.ensures, c.maker.ensures)

pub returns-in-None : goal.returns-in-None
returns-in-None c = (None, c.in-None.ensures, refl)
