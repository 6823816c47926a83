use Rattle.infer_formats.proofs.Common.{subst, sym, Decides-eqb, slice_eq-Decides, HasInTag, IsRootElement}
use Rattle.infer_formats.specs.Markup.{IsRootOf}
use Rattle.infer_formats.proofs.MarkupLemmas.{one_root}
use Rattle.infer_formats.proofs.markup.has_name_and_text.Goals as goal

pub returns-then-eq : goal.returns-then-eq
returns-then-eq c = λ b found.
    let root = c.in-Some.root in
    let here = subst (λ o. IsRootOf o b) c.in-Some.is found in
    let same = (slice_eq-Decides Decides-eqb _ _ _ c.eq.ensures).0 c.if-eq.true in (
      λ has. (root.rest.now, subst (λ n. IsRootElement n root.rest.now b) same here, c.has_in_tag.ensures.0 has),
      λ (rest, is, has). c.has_in_tag.ensures.1 (subst (HasInTag c.args.text.now) (sym (one_root b _ _ _ _ here is).1) has),
    )

pub returns-else-eq : goal.returns-else-eq
returns-else-eq c = λ b found.
    let here = subst (λ o. IsRootOf o b) c.in-Some.is found in
    let same = slice_eq-Decides Decides-eqb _ _ _ c.eq.ensures in
    let other = c.if-eq.false in
    (λ is. absurd (cc), λ (rest, is, has). same.1 (one_root b _ _ _ _ here is).0)

pub returns-in-None : goal.returns-in-None
returns-in-None c = λ b found.
    let none = subst (λ o. IsRootOf o b) c.in-None.is found in (λ no. absurd (cc), λ (rest, is, has). absurd (none c.args.name.now rest is))
