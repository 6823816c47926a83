use Rattle.infer_formats.proofs.Common.{subst, Decides-eqb, slice_eq-Decides, IsRootElement}
use Rattle.infer_formats.specs.Markup.{IsRootOf}
use Rattle.infer_formats.proofs.MarkupLemmas.{one_root}
use Rattle.infer_formats.proofs.markup.has_name.Goals as goal

pub returns-in-Some : goal.returns-in-Some
returns-in-Some c = λ b found.
    let root = c.in-Some.root in
    let here = subst (λ o. IsRootOf o b) c.in-Some.is found in
    let same = slice_eq-Decides Decides-eqb _ _ _ c.eq.ensures in (
      λ is. (root.rest.now, subst (λ n. IsRootElement n root.rest.now b) (same.0 is) here),
      λ (rest, is). same.1 (one_root b _ _ _ _ here is).0,
    )

pub returns-in-None : goal.returns-in-None
returns-in-None c = λ b found.
    let none = subst (λ o. IsRootOf o b) c.in-None.is found in (λ no. absurd (cc), λ (rest, is). absurd (none c.args.name.now rest is))
