use Rattle.mime_sniff.proofs.EscalationLemmas.{escalates_so}
use Rattle.mime_sniff.proofs.laws.escalates_so.Goals as goal

pub returns : goal.returns
returns c s b told (q, asked, h) may = escalates_so s b told may q asked h
