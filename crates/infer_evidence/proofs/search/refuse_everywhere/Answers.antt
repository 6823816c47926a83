use Rattle.infer_evidence.proofs.Common.{arith, inl, inr, refl, subst, sym, cases_lt, IsInside, IsSame}
use Rattle.infer_evidence.proofs.RangeLemmas.{in_a_row}
use Rattle.infer_evidence.proofs.SearchLemmas.{grown_ends, grown_same, nowhere_after, nowhere_more, same_between, some_text_of}
use Rattle.infer_evidence.proofs.search.refuse_everywhere.Goals as goal

pub returns-in_default-clause-proves : goal.returns-in_default-clause-proves
returns-in_default-clause-proves c = absurd (c.requires.nowhere c.loop-start.start (grind (arith, c.loop-start-test.true, c.if-text-end.true)) (c.in_default.ensures.none refl))

pub returns-in_default-clause-inside : goal.returns-in_default-clause-inside
returns-in_default-clause-inside c = c.loop-start.invariant.inside

pub returns-in_default-clause-few : goal.returns-in_default-clause-few
returns-in_default-clause-few c = let few = c.loop-start.invariant.few in omega arith

pub returns-then-saturating_sub-lt2-clause-proves : goal.returns-then-saturating_sub-lt2-clause-proves
returns-then-saturating_sub-lt2-clause-proves c = λ b agrees.
    let asked = c.ask.ensures.same c.args.buf.now b agrees in
    let all = c.new.ensures in
    let run = same_between c.args.buf.now b c.loop-start.run c.new.result _ c.args.end all.place all.len all.step (grind (arith, c.min-from.ensures)) c.loop-start.invariant.within asked.1 in
    let before = c.loop-start.invariant.proves b asked.0 run in (
      before.0,
      λ p high o. elim (cases_lt p c.loop-start.start) as (λ _. ⊥) [
        | inl early ↦ before.1 p early o
        | inr late ↦ nowhere_after c.args.search.now.text.now c.args.buf.now b _ c.args.end c.new.result c.requires.within c.requires.nowhere all.place all.len all.step asked.1 p (grind (arith, late, c.min-from.ensures)) high o
      ],
    )

pub returns-then-saturating_sub-lt2-clause-inside : goal.returns-then-saturating_sub-lt2-clause-inside
returns-then-saturating_sub-lt2-clause-inside c = λ of.
    c.ask.ensures.inside c.args.buf.now (c.loop-start.invariant.inside of) (λ k lt. grind (arith, lt, c.new.ensures, c.requires.within))

pub returns-then-saturating_sub-lt2-clause-few : goal.returns-then-saturating_sub-lt2-clause-few
returns-then-saturating_sub-lt2-clause-few c = let few = c.loop-start.invariant.few in let now = c.ask.ensures.few in omega arith

pub loop-start-preserved-else-saturating_sub-lt2 : goal.loop-start-preserved-else-saturating_sub-lt2
loop-start-preserved-else-saturating_sub-lt2 c = let kept = c.grow.ensures.kept c.if-not-grow.true in record {
  proves = λ b agrees same.
      let asked = c.ask-then-not-grow.ensures.same c.args.buf.now b agrees in
      let before = c.loop-start.invariant.proves b asked.0 (subst (IsSame c.args.buf.now b) kept asked.1) in
      let new = c.new-run-then-not-grow.ensures in
      let here = in_a_row c.args.buf.now b c.new-run-then-not-grow.result new.step same c.in-Some.hit.place (omega (arith, new.place)) (omega (arith, new.place, new.len)) in
      (before.0, nowhere_more c.args.search.now.text.now c.args.buf.now b c.loop-start.start c.in-Some.hit c.in-Some.ensures.some here before.1);
  inside = λ of. c.ask-then-not-grow.ensures.inside c.args.buf.now (c.loop-start.invariant.inside of)
      (subst (IsInside c.args.buf.now) (sym kept) (λ k lt. let high = c.loop-start.invariant.within k lt in grind (arith, high, c.requires.within)));
  within = λ k lt. let high = c.in-Some.ensures.some.high in grind (arith, high, lt, c.new-run-then-not-grow.ensures, c.if-text-end.true, c.loop-start-test.true);
  few = let few = c.loop-start.invariant.few in let now = c.ask-then-not-grow.ensures.few in grind (arith, few, now, c.if-saturating_sub-lt2.false, c.saturating_sub.ensures, c.wanted.ensures);
}

pub loop-start-preserved : goal.loop-start-preserved
loop-start-preserved c =
    let grows = c.grow.ensures.grown c.if-not-grow.false in record {
      proves = λ b agrees same.
          let grown = grown_same c.args.buf.now b c.loop-start.run c.grow.new.self c.in-Some.hit.place grows same in
          let before = c.loop-start.invariant.proves b agrees grown.0 in
          (before.0, nowhere_more c.args.search.now.text.now c.args.buf.now b c.loop-start.start c.in-Some.hit c.in-Some.ensures.some grown.1 before.1);
      inside = c.loop-start.invariant.inside;
      within = grown_ends c.loop-start.run c.grow.new.self c.in-Some.hit.place c.args.end grows c.loop-start.invariant.within
          (let high = c.in-Some.ensures.some.high in grind (arith, high, c.if-text-end.true, c.loop-start-test.true));
      few = c.loop-start.invariant.few;
    }

pub returns-clause-proves : goal.returns-clause-proves
returns-clause-proves c = λ b agrees.
    let asked = c.ask-2.ensures.same c.args.buf.now b agrees in
    let before = c.loop-start.invariant.proves b asked.0 asked.1 in
    let some = some_text_of c.args.search.now.text.now c.args.buf.now c.args.end c.requires.nowhere in
    (before.0, λ p high. before.1 p (grind (arith, high, some)))

pub returns-clause-inside : goal.returns-clause-inside
returns-clause-inside c = λ of. c.ask-2.ensures.inside c.args.buf.now (c.loop-start.invariant.inside of) (λ k lt. let high = c.loop-start.invariant.within k lt in grind (arith, high, c.requires.within))

pub returns-clause-few : goal.returns-clause-few
returns-clause-few c = let few = c.loop-start.invariant.few in let now = c.ask-2.ensures.few in omega arith
