use Rattle.infer_more.proofs.Common.{◌⊎◌, false≢true, refl, candidates, IsTried}
use Rattle.infer_formats.specs.Tiff.{HasTag}
use Rattle.infer_more.proofs.LeastLemmas.{least_none, least_same}
use Rattle.infer_more.proofs.index.search.least_tagged.Goals as goal

pub returns-then-not-first_directory_has_either : goal.returns-then-not-first_directory_has_either
returns-then-not-first_directory_has_either c =
    least_none _ c.args.before (λ i is. false≢true (c.if-not-first_directory_has_either.ensures.1 is.0))

pub returns : goal.returns
returns c =
    let b = c.args.buf.now in
    least_same (IsTried c.args.parent b (candidates b c.args.entries.now))
    (λ i. (HasTag c.args.tag b ⊎ HasTag c.args.other b) × IsTried c.args.parent b (candidates b c.args.entries.now) i) c.args.before _
    (λ i is. (c.if-not-first_directory_has_either.ensures.0 refl, is)) (λ i is. is.1) c.least_each.ensures
