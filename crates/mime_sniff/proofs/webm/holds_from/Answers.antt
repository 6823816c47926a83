use Rattle.std.proofs.Common.{refl, subst, sym}
use Rattle.mime_sniff.specs.Webm.{HoldsFrom}
use Rattle.mime_sniff.proofs.WebmLemmas.{from_here, from_next, none_far, to_next}
use Rattle.mime_sniff.proofs.webm.holds_from.Goals as goal

pub returns-then-holds : goal.returns-then-holds
returns-then-holds c =
    (λ x. c.loop-place.invariant.0 (from_here c.args.buf.now c.loop-place.place c.loop-place-test.true (c.holds.ensures.0 c.if-holds.true)), λ x. refl)

pub loop-place-preserved : goal.loop-place-preserved
loop-place-preserved c =
    let b = c.args.buf.now in
    let place = c.loop-place.place in (
      λ from. c.loop-place.invariant.0 (from_next b place (subst (λ i. HoldsFrom b i) c.next_place-place.ensures.value from)),
      λ from. subst (λ i. HoldsFrom b i) (sym c.next_place-place.ensures.value)
          (to_next b place (λ holds. let t = c.holds.ensures.1 holds in cc) (c.loop-place.invariant.1 from)),
    )

pub returns : goal.returns
returns c = (λ x. absurd (cc), λ from. absurd (none_far c.args.buf.now c.loop-place.place c.loop-place-test.false (c.loop-place.invariant.1 from)))
