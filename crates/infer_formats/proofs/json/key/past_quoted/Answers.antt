use Rattle.infer_formats.proofs.FirstKeyLemmas.{quoted_inside}
use Rattle.infer_formats.proofs.json.key.past_quoted.Goals as goal

pub returns-in-Some : goal.returns-in-Some
returns-in-Some c =
    quoted_inside c.args.text.now c.args.buf.now c.in-Some.inside.now c.in-Some.ensures c.past_closing.result c.past_closing.ensures
