use Rattle.infer_formats.proofs.Common.{◌≡◌, inl, inr, ◌+◌, add-zero, length, get_or, sym, subst, arith, ◌∙◌, cases_lt, OccursAt, IsFirstWithin-skip}
use Rattle.infer_formats.proofs.search.find_early.Goals as goal

pub returns : goal.returns
returns c =
    let b = c.args.buf.now in
    let text = c.args.text.now in
    let place = c.in_ok-place.place in
    let (_, _, _, (some, first), _) = c.in-Some.ensures.item in
    IsFirstWithin-skip b text 0 (place + 1) (length b) (omega arith)
    (λ q lt w.
    let begins = subst (λ i. get_or b i 0 ≡ c.in-Some.first.now) (add-zero q) (w.stands.reads 0 some ∙ sym (first 0)) in
    elim (cases_lt q place) [
      | inl early ↦ c.in_ok-place.ensures.before q (omega arith) early begins
      | inr late ↦
          let same : q ≡ place = omega arith in
          let is = c.stands_at.ensures.1 (subst (OccursAt b text) same w.stands) in absurd (cc)
    ]) _ c.find_from-2.ensures
