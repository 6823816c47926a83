use Rattle.infer_notation.proofs.DescribedLemmas.{is_described, is_signature}
use Rattle.infer_notation.proofs.laws.described.Goals as goal

pub returns : goal.returns
returns c = λ t alternatives. (is_described t alternatives, is_signature t alternatives)
