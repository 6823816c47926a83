use Rattle.infer_more.proofs.Common.{◌≡◌, refl, subst, sym, true, IsNamed, IsOfProgram, ascends, named_row, bucket_of}
use Rattle.infer_more.proofs.FoundLemmas.{listed_in_bucket}
use Rattle.infer_more.proofs.LeastLemmas.{least_none, least_same}
use Rattle.infer_more.proofs.index.search.least_program.Goals as goal

pub least_named-requires : goal.least_named-requires
least_named-requires c = subst (λ n. ascends named_row n ≡ true) (sym c.bucket_of.ensures) (listed_in_bucket (ascends named_row) refl _ c.args.buckets.now c.in-Some.name.now c.requires)

pub returns-in-Some : goal.returns-in-Some
returns-in-Some c =
    let b = c.args.buf.now in
    let name = c.in-Some.name.now in
    let lists = c.args.buckets.now in
    least_same (IsNamed (λ other. other ≡ name) c.bucket_of.result.now) (IsOfProgram b lists) c.args.before _
    (λ i is. (name, c.in-Some.ensures.found, subst (λ n. IsNamed (λ other. other ≡ name) n i) c.bucket_of.ensures is))
    (λ i (other, p, is).
    let same = c.in-Some.ensures.only other p in
    subst (λ n. IsNamed (λ other. other ≡ name) n i) (sym c.bucket_of.ensures) (subst (λ n. IsNamed (λ other. other ≡ n) (bucket_of lists n) i) same is))
    c.least_named.ensures

pub returns-in-None : goal.returns-in-None
returns-in-None c = least_none (IsOfProgram c.args.buf.now c.args.buckets.now) c.args.before (λ i (name, p, is). c.in-None.ensures.found name p)
