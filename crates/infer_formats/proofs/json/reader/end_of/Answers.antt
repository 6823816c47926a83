use Rattle.infer_formats.proofs.Common.{drop, refl, arith, left}
use Rattle.infer_formats.proofs.OnwardLemmas.{onward_before, onward_cut, onward_ended, onward_here, onward_more, onward_wrong}
use Rattle.infer_formats.proofs.json.reader.end_of.Goals as goal

pub loop-i-init : goal.loop-i-init
loop-i-init c = onward_here (left c.args.token) (drop c.args.at c.args.buf.now)

pub loop-i-preserved : goal.loop-i-preserved
loop-i-preserved c =
    onward_more c.args.token c.loop-i.token (drop c.args.at c.args.buf.now) c.args.buf.now c.loop-i.i
    (omega arith) c.loop-i.invariant c.in-Inside.next c.in-Inside.ensures

pub returns-in-Ended : goal.returns-in-Ended
returns-in-Ended c = (
  refl,
  omega arith,
  omega arith,
  onward_ended c.args.token c.loop-i.token
      (drop c.args.at c.args.buf.now) c.args.buf.now c.loop-i.i (omega arith) c.loop-i.invariant c.in-Ended.ensures,
)

pub returns-in-EndedBefore : goal.returns-in-EndedBefore
returns-in-EndedBefore c = (
  refl,
  omega arith,
  omega arith,
  onward_before c.args.token c.loop-i.token
      (drop c.args.at c.args.buf.now) c.args.buf.now c.loop-i.i
      (omega arith) c.loop-i.invariant c.in-EndedBefore.ensures,
)

pub returns-in-Wrong : goal.returns-in-Wrong
returns-in-Wrong c =
    onward_wrong c.args.token c.loop-i.token (drop c.args.at c.args.buf.now) c.args.buf.now c.loop-i.i
    (omega arith) c.loop-i.invariant c.in-Wrong.ensures

pub returns : goal.returns
returns c = (
  c.loop-i.token,
  onward_cut c.args.token c.loop-i.token (drop c.args.at c.args.buf.now) c.args.buf.now c.loop-i.i
      (omega arith) c.loop-i.invariant,
)
