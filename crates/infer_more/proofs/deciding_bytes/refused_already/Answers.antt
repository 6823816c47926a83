use Rattle.infer_more.proofs.Common.{arith}
use Rattle.infer_more.proofs.OutlineLemmas.{buffer_of}
use Rattle.infer_more.proofs.EvidenceLemmas.{front_proves, same_proves}
use Rattle.infer_more.proofs.deciding_bytes.refused_already.Goals as goal

pub returns-then-is_whole : goal.returns-then-is_whole
returns-then-is_whole c = λ yes b bytes agrees. same_proves c.args.told.now.i c.args.buf.now b (c.is_whole.ensures c.if-is_whole.true b agrees)

pub returns : goal.returns
returns c = λ yes b bytes agrees.
    front_proves c.args.told.now.i c.args.buf.now b c.min.result (buffer_of c.args.buf.now (λ i. omega (arith, c.type_inv.buf i))) bytes (omega arith)
    (c.is_decided_by.ensures yes) (λ k lt. c.front.ensures c.args.buf.now b agrees k (omega arith) (omega arith))
