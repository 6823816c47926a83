use Rattle.infer_label.proofs.SeenLemmas.{name_seen}
use Rattle.infer_label.proofs.laws.no_controls.Goals as goal

pub returns : goal.returns
returns c = name_seen
