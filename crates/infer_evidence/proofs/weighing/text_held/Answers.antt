use Rattle.infer_evidence.proofs.Common.{◌+◌, ◌∙◌, arith}
use Rattle.infer_evidence.proofs.RangeLemmas.{in_a_row, inside_by_bytes}
use Rattle.infer_evidence.proofs.weighing.text_held.Goals as goal

pub returns-clause-inside : goal.returns-clause-inside
returns-clause-inside c = inside_by_bytes c.args.buf.now c.new.result c.new.ensures.step
    (λ k lt. let stands = c.requires k (grind (arith, lt, c.new.ensures)) in grind (arith, stands.0, c.new.ensures))

pub returns-clause-proves : goal.returns-clause-proves
returns-clause-proves c = λ b same k lt.
    let stands = c.requires k lt in
    let here = in_a_row c.args.buf.now b c.new.result c.new.ensures.step same (c.args.place + k) (grind (arith, c.new.ensures)) (grind (arith, lt, c.new.ensures)) in
    (here.0, here.1 ∙ stands.1)
