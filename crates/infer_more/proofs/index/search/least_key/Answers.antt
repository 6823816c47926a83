use Rattle.infer_more.proofs.Common.{subst}
use Rattle.infer_formats.specs.FirstKey.{HasValue}
use Rattle.infer_more.specs.Index.{IsKeyed, IsNamedWith}
use Rattle.infer_more.proofs.LeastLemmas.{least_none, least_same}
use Rattle.infer_more.proofs.index.search.least_key.Goals as goal

pub returns-in-Some : goal.returns-in-Some
returns-in-Some c =
    let b = c.args.buf.now in
    let keys = c.args.keys.now in
    let key = c.in-Some.key.text.now in
    let rest = c.in-Some.key.rest.now in
    least_same (IsNamedWith (λ t. HasValue t rest) key keys) (IsKeyed b keys) c.args.before _
    (λ i is. (key, rest, c.in-Some.ensures.found, is))
    (λ i (other, after, first, is).
    let same = c.in-Some.ensures.only other after first in
    subst (λ n. IsNamedWith (λ t. HasValue t rest) n keys i) same.0 (subst (λ left. IsNamedWith (λ t. HasValue t left) other keys i) same.1 is))
    c.least_named_with.ensures

pub returns-in-None : goal.returns-in-None
returns-in-None c = least_none (IsKeyed c.args.buf.now c.args.keys.now) c.args.before (λ i (key, rest, first, is). c.in-None.ensures.found key rest first)
