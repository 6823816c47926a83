use Rattle.mime_sniff.proofs.ComputedLemmas.{escalates}
use Rattle.mime_sniff.proofs.laws.escalation.Goals as goal

pub returns : goal.returns
returns c s b told (q, asked, h) is = escalates s b told is q asked h
