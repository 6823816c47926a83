use Rattle.infer_notation.proofs.Common.{option_map, refl}
use Rattle.infer_formats.specs.Relation.{relation_listed}
use Rattle.infer_notation.proofs.SeenLemmas.{one_seen}
use Rattle.infer_notation.proofs.items.seen.Goals as goal

pub returns-in-Some : goal.returns-in-Some
returns-in-Some c = one_seen (option_map relation_listed c.args.relation) (relation_listed c.in-Some.relation) c.args.buf.now _ (rw c.in-Some.is refl) c.fits.ensures
