use Rattle.infer_formats.proofs.Common.{ℕ, List, None, MatchOption, drop, ap, refl, subst, sym, ◌∙◌, slice_range, take_rest, IsRootElement, ReachesTag}
use Rattle.infer_formats.proofs.MarkupLemmas.{one_begin, one_tag}
use Rattle.infer_formats.proofs.markup.root_of.Goals as goal

pub returns-in_err-tag-clause-found : goal.returns-in_err-tag-clause-found
returns-in_err-tag-clause-found c =
    let b = c.args.buf.now in
    let (start, begun, tags) = c.prolog_after.ensures.tag in
    subst (λ r. MatchOption r ((name rest : List ℕ) → ¬ IsRootElement name rest b) (λ r. IsRootElement r.name.now r.rest.now b)) (sym c.from_residual.ensures)
    (λ name rest (p, at, to, begins, leads, is_name, is_rest).
    let same = one_begin b p start begins begun in
    c.in_err-tag.ensures at to ((tags at to).0 (subst (λ x. ReachesTag b at to x None) same leads)))

pub returns-clause-found : goal.returns-clause-found
returns-clause-found c =
    let tag = c.in_ok-tag.tag in
    let (start, begun, tags) = c.prolog_after.ensures.tag in
    (start, tag.at, tag.to, begun, (tags tag.at tag.to).1 c.in_ok-tag.ensures, refl, take_rest c.args.buf.now tag.to)

pub returns-clause-only : goal.returns-clause-only
returns-clause-only c = λ name rest (p, at, to, begins, leads, is_name, is_rest).
    let b = c.args.buf.now in
    let tag = c.in_ok-tag.tag in
    let (start, begun, tags) = c.prolog_after.ensures.tag in
    let same = one_begin b p start begins begun in
    let starts = (tags at to).0 (subst (λ x. ReachesTag b at to x None) same leads) in
    let one = one_tag b at to tag.at tag.to _ _ starts c.in_ok-tag.ensures in (
      is_name ∙ ap (λ x. slice_range b x to) one.0 ∙ ap (slice_range b tag.at) one.1,
      is_rest ∙ ap (λ x. drop x b) one.1 ∙ sym (take_rest b tag.to),
    )
