use Rattle.infer_sniff.proofs.FinalLemmas.{Final-stays-on}
use Rattle.infer_sniff.proofs.verdict.verdict_after.Goals as goal

pub returns-in-Final-clause-lasts : goal.returns-in-Final-clause-lasts
returns-in-Final-clause-lasts c = Final-stays-on c.args.before c.args.buf.now c.requires
