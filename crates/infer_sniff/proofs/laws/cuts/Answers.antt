use Rattle.infer_sniff.proofs.FinalLemmas.{alike}
use Rattle.infer_sniff.proofs.KeptLemmas.{front_joined}
use Rattle.infer_sniff.proofs.laws.cuts.Goals as goal

pub returns-clause-joined : goal.returns-clause-joined
returns-clause-joined c = front_joined 8192

pub returns-clause-one_verdict : goal.returns-clause-one_verdict
returns-clause-one_verdict c = alike
