use Rattle.mime_sniff.proofs.ComputedLemmas.{stays_of_kind}
use Rattle.mime_sniff.proofs.laws.of_its_kind.Goals as goal

pub returns : goal.returns
returns c s k q b told is known asked h = stays_of_kind s k q b told is known asked h
