use Rattle.infer_notation.proofs.GrammarLemmas.{is_derived, is_read}
use Rattle.infer_notation.proofs.laws.grammar.Goals as goal

pub returns : goal.returns
returns c = λ t ys. (is_derived t ys, is_read t ys)
