use Rattle.mime_sniff.specs.Standard.{header}
use Rattle.mime_sniff.proofs.ScriptLemmas.{told_no_script}
use Rattle.mime_sniff.proofs.laws.gives_no_script.Goals as goal

pub returns : goal.returns
returns c s b t k (q, asked, h) e = told_no_script s (header b) t k q asked h e
