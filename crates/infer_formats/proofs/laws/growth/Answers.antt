use Rattle.infer_formats.proofs.RelationLemmas.{relation_lasts}
use Rattle.infer_formats.proofs.TextLemmas.{binary-lasts}
use Rattle.infer_formats.proofs.laws.growth.Goals as goal

pub returns : goal.returns
returns c = record { relation = relation_lasts; binary = binary-lasts }
