use Rattle.std.proofs.Common.{◌≡◌, ℕ, ◌+◌, ◌*◌, ◌<◌, ◌≤◌, codes, inl, inr, arith, refl, subst}
use Rattle.std.proofs.lemmas.Bool.{cases_lt}
use Rattle.memchr.specs.Find.{OccursAt}
use Rattle.mime_sniff.proofs.mp4.has_brand.Goals as goal
use Rattle.mime_sniff.proofs.mp4.has_brand.Goals.{else-size-gt8-via-then-size-gt8+else-stands_at, else-size-gt8-via-else-size-gt8}

-- one word more that is no such brand
one_more : (P : ℕ → Type 0) (k : ℕ) → ((j : ℕ) → 4 ≤ j → j < k → ¬ P j) → (¬ P k) → (j : ℕ) → 4 ≤ j → j < k + 1 → ¬ P j
one_more P k before not j low high =
    elim (cases_lt j k) [ inl l ↦ before j low l | inr l ↦ let e : k ≡ j = omega arith in subst (λ i. ¬ P i) e not ]

pub returns-then-stands_at : goal.returns-then-stands_at
returns-then-stands_at c = (λ x. (2, inl refl, omega arith, c.stands_at.ensures.0 c.if-stands_at.true), λ x. refl)

pub loop-k-preserved : goal.loop-k-preserved
loop-k-preserved c = one_more _ c.loop-k.k c.loop-k.invariant (λ o. let t = c.stands_at-in-loop-k.ensures.1 o in cc)

pub returns : goal.returns
returns c = (
  λ x. absurd (cc),
  λ (k, is, within, o). elim is [
    | inl e ↦ elim c.else-size-gt8.branch [
      | else-size-gt8-via-then-size-gt8+else-stands_at w ↦
          let t = w.stands_at.ensures.1 (subst (λ i. OccursAt c.args.buf.now (codes "mp4") (4 * i)) e o) in cc (w.if-stands_at.false)
      | else-size-gt8-via-else-size-gt8 w ↦ absurd (omega (arith, w.if-size-gt8.false, c.requires.stated))
    ]
    | inr low ↦ absurd (c.loop-k.invariant k low (omega (arith, c.loop-k-test.false, c.requires.stated, c.requires.words)) o)
  ],
)
