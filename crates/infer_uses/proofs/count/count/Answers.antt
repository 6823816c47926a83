use Rattle.infer.proofs.Common.{arith}
use Rattle.infer_uses.specs.Counts.{no_buffer}
use Rattle.infer_uses.proofs.CountLemmas.{counted-more, passed-more}
use Rattle.infer_uses.proofs.count.count.Goals as goal
use Rattle.infer_uses.proofs.count.count.Goals.{then-is_of_class, else-is_of_class}

pub loop-front-init : goal.loop-front-init
loop-front-init c = record { few = omega arith; counts = no_buffer }

pub loop-front-preserved : goal.loop-front-preserved
loop-front-preserved c =
    let found = c.is_of_class.ensures in
    let few = c.loop-front.invariant.few in
    elim c.if-is_of_class.branch [
      | then-is_of_class w ↦ record {
        few = let count = w.count-is in omega arith;
        counts = rw w.count-is (counted-more (λ front. front.now) c.args.class c.args.fronts.now c.loop-front.front-index _ c.loop-front-test.true
            c.loop-front.count c.loop-front.invariant.counts found.0 found.1 (found.2.0 w.if-is_of_class.true));
      }
      | else-is_of_class w ↦ record {
        few = let count = w.count-is in omega arith;
        counts = rw w.count-is (passed-more (λ front. front.now) c.args.class c.args.fronts.now c.loop-front.front-index _ c.loop-front-test.true
            c.loop-front.count c.loop-front.invariant.counts found.0 found.1
            (λ of_class. let yes = found.2.1 of_class in let no = w.if-is_of_class.false in absurd (cc)));
      }
    ]
