use Rattle.std.proofs.Common.{◌++◌}
use Rattle.mime_sniff.proofs.EscalationLemmas.{escalates_so, may_grown}
use Rattle.mime_sniff.proofs.laws.escalates_for_good.Goals as goal

pub returns : goal.returns
returns c s b more told may (q, asked, h) = escalates_so s (b ++ more) told (may_grown s b more may) q asked h
