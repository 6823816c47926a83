use Rattle.infer_evidence.proofs.Common.{◌-◌, arith}
use Rattle.infer_evidence.proofs.RangeLemmas.{in_a_row}
use Rattle.infer_evidence.proofs.weighing.text_refused.Goals as goal

pub returns-in-Some-clause-proves : goal.returns-in-Some-clause-proves
returns-in-Some-clause-proves c = λ b same stands.
    let differs = c.in-Some.ensures.some in
    let here = in_a_row c.args.buf.now b c.new.result c.new.ensures.step same.0 c.in-Some.place (grind (arith, c.new.ensures)) (grind (arith, c.new.ensures)) in
    let there = stands (c.in-Some.place - c.args.place) (let low = differs.low in let high = differs.high in omega arith) in
    differs.other (grind (arith, here.1, there.1, differs.low))
