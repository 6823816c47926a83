use Rattle.infer.proofs.Common.{arith}
use Rattle.infer.proofs.EvidenceLemmas.{buffer_by_reads, front_proves}
use Rattle.infer.proofs.LawLemmas.{every_lasts}
use Rattle.infer.proofs.deciding_bytes.refused_already.Goals as goal

pub returns-then-not-told : goal.returns-then-not-told
returns-then-not-told c = λ yes b bytes agrees.
    front_proves (every_lasts c.growth.ensures c.growth-2.ensures) c.args.buf.now b c.min.result c.args.told.now.row
    (buffer_by_reads c.args.buf.now (λ i. omega (arith, c.type_inv.buf i))) bytes (omega arith) (c.is_decided_by.ensures yes)
    (λ k lt. c.front.ensures c.args.buf.now b agrees k (omega arith) (omega arith))
