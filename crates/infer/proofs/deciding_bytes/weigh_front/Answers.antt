use Rattle.infer.proofs.Common.{arith}
use Rattle.infer.proofs.EvidenceLemmas.{buffer_by_reads, front_proves, whole_proves}
use Rattle.infer.proofs.LawLemmas.{every_lasts}
use Rattle.infer.proofs.deciding_bytes.weigh_front.Goals as goal

pub returns-in-Some-clause-proves : goal.returns-in-Some-clause-proves
returns-in-Some-clause-proves c = λ b bytes agrees.
    let asked = c.ask_front.ensures.same c.args.buf.now b agrees in
    let told = c.in-Some.ensures in (
      asked.0,
      front_proves (every_lasts c.growth.ensures c.growth-2.ensures) c.args.buf.now b _ c.args.told.now.row (buffer_by_reads c.args.buf.now (λ i. omega (arith, c.type_inv.buf i))) bytes told.0 told.1
          (λ k lt. c.new.ensures.reads c.args.buf.now b asked.1 k (omega arith) (omega (arith, lt))),
    )

pub returns-in-None-clause-proves : goal.returns-in-None-clause-proves
returns-in-None-clause-proves c = λ b bytes agrees.
    let exact = c.ask_exact.ensures.exact c.args.buf.now b agrees in
    let asked = c.ask_front-in-None.ensures.same c.args.buf.now b exact.0 in (
      asked.0,
      whole_proves c.args.buf.now b c.args.told.now.row exact.1 (λ k lt. c.new-in-None.ensures.reads c.args.buf.now b asked.1 k (omega arith) (omega (arith, lt))),
    )
