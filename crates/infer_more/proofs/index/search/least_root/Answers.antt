use Rattle.infer_more.proofs.Common.{◌≡◌, refl, subst, sym, true, IsNamedWith, IsRooted, ascends, bucket_of, named_row}
use Rattle.infer_formats.specs.Markup.{HasInTag}
use Rattle.infer_more.proofs.FoundLemmas.{listed_in_bucket}
use Rattle.infer_more.proofs.LeastLemmas.{least_none, least_same}
use Rattle.infer_more.proofs.index.search.least_root.Goals as goal

pub least_named_with-requires : goal.least_named_with-requires
least_named_with-requires c = subst (λ n. ascends named_row n ≡ true) (sym c.bucket_of.ensures) (listed_in_bucket (ascends named_row) refl _ c.args.roots.now c.in-Some.root.name.now c.requires)

pub returns-in-Some : goal.returns-in-Some
returns-in-Some c =
    let b = c.args.buf.now in
    let roots = c.args.roots.now in
    let name = c.in-Some.root.name.now in
    let rest = c.in-Some.root.rest.now in
    least_same (IsNamedWith (λ t. HasInTag t rest) name c.bucket_of.result.now) (IsRooted b roots) c.args.before _
    (λ i is. (name, rest, c.in-Some.ensures.found, subst (λ l. IsNamedWith (λ t. HasInTag t rest) name l i) c.bucket_of.ensures is))
    (λ i (other, after, element, is).
    let same = c.in-Some.ensures.only other after element in
    subst (λ l. IsNamedWith (λ t. HasInTag t rest) name l i) (sym c.bucket_of.ensures)
    (subst (λ n. IsNamedWith (λ t. HasInTag t rest) n (bucket_of roots n) i) same.0 (subst (λ left. IsNamedWith (λ t. HasInTag t left) other (bucket_of roots other) i) same.1 is)))
    c.least_named_with.ensures

pub returns-in-None : goal.returns-in-None
returns-in-None c = least_none (IsRooted c.args.buf.now c.args.roots.now) c.args.before (λ i (name, rest, element, is). c.in-None.ensures.found name rest element)
