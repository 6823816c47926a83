-- A read that gives bytes goes after those before it.
use Rattle.infer.proofs.Common.{rules, false≢true, arith, length-take-le}
use Rattle.infer.proofs.HeadLemmas.{Consumes-one_more, IsDue-read}
use Rattle.infer.proofs.read.head.fill.Goals as goal

pub loop-room-preserved : goal.loop-room-preserved
loop-room-preserved g c = record {
  in_range = search rules;
  no_fault = search rules;
  same = search rules;
  bytes = Consumes-one_more _ _ _ _ _ c.loop-room.invariant.in_range c.in_ok-count.ensures.bound.0 _ _ _ c.loop-room.invariant.bytes c.in_ok-count.ensures.bytes.0;
  due = IsDue-read _ _ c.in_ok-count.count c.loop-room.out c.read.new.out c.loop-room.invariant.in_range c.in_ok-count.ensures.bound.0
      c.args.piece _ c.if-count-eq0.false (let few = c.min-room.ensures in let long = c.read.auto.out in search rules) (λ enough. absurd (false≢true (search rules)));
}

pub returns-in_err-count-clause-lost : goal.returns-in_err-count-clause-lost
returns-in_err-count-clause-lost g c =
    let short = length-take-le c.loop-room.filled c.loop-room.out (omega arith) in
    let some = c.if-filled-out.true in search rules
