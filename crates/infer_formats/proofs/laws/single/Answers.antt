use Rattle.infer_formats.proofs.MarkupLemmas.{one_root}
use Rattle.infer_formats.proofs.OneTextLemmas.{one_text}
use Rattle.infer_formats.proofs.ScriptLemmas.{one_program}
use Rattle.infer_formats.proofs.laws.single.Goals as goal

pub returns : goal.returns
returns c = record { program = one_program; root = one_root; json = one_text }
