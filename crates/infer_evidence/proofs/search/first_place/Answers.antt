use Rattle.infer_evidence.proofs.Common.{◌≡◌, OccursAt, arith, cases_lt, inl, inr, subst}
use Rattle.infer_evidence.proofs.ListLemmas.{refused}
use Rattle.infer_evidence.proofs.search.first_place.Goals as goal

pub loop-place-preserved : goal.loop-place-preserved
loop-place-preserved c = λ p lt high stands. elim (cases_lt p c.loop-place.place) as (λ _. ⊥) [
  | inl early ↦ c.loop-place.invariant p early high stands
  | inr late ↦ let here : p ≡ c.loop-place.place = omega (arith, lt, late) in
      refused c.if-stands_at.false c.stands_at.ensures (subst (OccursAt c.args.buf.now c.args.text.now) here stands)
]

pub returns-clause-none : goal.returns-clause-none
returns-clause-none c = λ none p high stands. c.loop-place.invariant p (grind (arith, high)) high stands

pub returns-then-text-end-clause-none : goal.returns-then-text-end-clause-none
returns-then-text-end-clause-none c = λ none p high stands. c.loop-place.invariant p (grind (arith, high, c.if-text-end.true, c.loop-place-test.true)) high stands
