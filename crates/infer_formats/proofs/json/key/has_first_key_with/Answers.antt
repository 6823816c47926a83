use Rattle.infer_formats.proofs.Common.{◌↔◌, IsTrue, subst, sym}
use Rattle.infer_formats.specs.FirstKey.{BeginsByValue, HasFirstKeyWith, StandsNext, in_quotes}
use Rattle.infer_formats.proofs.FirstKeyLemmas.{no_mark_value, some_left, up_to_mark, value_read}
use Rattle.infer_formats.proofs.json.key.has_first_key_with.Goals as goal

pub returns-in-Some : goal.returns-in-Some
returns-in-Some c =
    let k = c.args.key.now in
    let v = c.args.value.now in
    let w = c.past_mark.result.now in
    let rest = c.in-Some.rest.now in
    let marked = up_to_mark (BeginsByValue k v) c.args.buf.now w c.past_mark.ensures (no_mark_value k v) in
    let read = value_read k v w rest c.in-Some.ensures in
    let found = some_left (StandsNext (in_quotes v) rest) c.past_quoted.result c.past_quoted.ensures in
    subst (λ r. IsTrue r ↔ HasFirstKeyWith k v c.args.buf.now) (sym c.is_some.ensures) (λ is. marked.1 (read.0 (found.0 is)), λ h. found.1 (read.1 (marked.0 h)))

pub returns-in-None : goal.returns-in-None
returns-in-None c =
    let k = c.args.key.now in
    let v = c.args.value.now in
    let marked = up_to_mark (BeginsByValue k v) c.args.buf.now c.past_mark.result.now c.past_mark.ensures (no_mark_value k v) in
    (λ is. absurd (cc), λ h. let (value, left, key, text) = marked.0 h in absurd (c.in-None.ensures value key))
