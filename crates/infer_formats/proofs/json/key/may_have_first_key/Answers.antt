use Rattle.infer_formats.proofs.FirstKeyLemmas.{key_may}
use Rattle.infer_formats.proofs.json.key.may_have_first_key.Goals as goal

pub returns : goal.returns
returns c = λ may. c.may_reach_bracket.ensures (key_may c.args.key.now c.args.buf.now may)
