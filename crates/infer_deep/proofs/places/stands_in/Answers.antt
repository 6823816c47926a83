use Rattle.infer_deep.proofs.Common.{rules, tests, refl, arith, YieldsList-from_range, cases_from_any, OccursAt}
use Rattle.infer_deep.proofs.AnyLemmas.{any_below}
use Rattle.infer_deep.proofs.places.stands_in.Goals as goal

pub returns : goal.returns
returns g c =
    let count = c.saturating_sub-count.result in
    let found = any_below (OccursAt c.args.buf.now c.args.text.now) count c.any.result
    (cases_from_any _ _ c.any.result (OccursAt c.args.buf.now c.args.text.now) (λ p. ¬ OccursAt c.args.buf.now c.args.text.now p)
    c.any.ensures.ran (YieldsList-from_range 0 count count refl (omega arith))
    (λ p q called. search (rules, tests)) (λ p q called. search (rules, tests))) in
    (λ e. let h = found.0 e in (h.0, h.2), λ (p, o). found.1 (p, let fits = o.fits in grind (arith), o))
