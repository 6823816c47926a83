use Rattle.infer_formats.proofs.FirstKeyLemmas.{key_read}
use Rattle.infer_formats.proofs.json.key.past_key.Goals as goal

pub returns : goal.returns
returns c =
    key_read c.args.key.now c.args.buf.now c.in_ok-inside.inside.now c.in_ok-after.after.now c.in_ok-inside.ensures c.in_ok-after.ensures c.past_byte-2.result c.past_byte-2.ensures
