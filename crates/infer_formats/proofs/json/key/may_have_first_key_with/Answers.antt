use Rattle.infer_formats.proofs.FirstKeyLemmas.{value_may}
use Rattle.infer_formats.proofs.json.key.may_have_first_key_with.Goals as goal

pub returns : goal.returns
returns c = λ may. c.may_reach_bracket.ensures (value_may c.args.key.now c.args.value.now c.args.buf.now may)
