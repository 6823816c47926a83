use Rattle.infer_formats.proofs.Common.{◌↔◌, IsTrue, subst, sym}
use Rattle.infer_formats.specs.FirstKey.{BeginsByKey, HasFirstKey}
use Rattle.infer_formats.proofs.FirstKeyLemmas.{ByKey, no_mark_key, some_left, up_to_mark}
use Rattle.infer_formats.proofs.json.key.has_first_key.Goals as goal

pub returns : goal.returns
returns c =
    let k = c.args.key.now in
    let w = c.past_mark.result.now in
    let marked = up_to_mark (ByKey k) c.args.buf.now w c.past_mark.ensures (no_mark_key k) in
    let found = some_left (BeginsByKey k w) c.past_key.result c.past_key.ensures in
    subst (λ r. IsTrue r ↔ HasFirstKey k c.args.buf.now) (sym c.is_some.ensures) (λ is. marked.1 (found.0 is), λ h. found.1 (marked.0 h))
