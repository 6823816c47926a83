use Rattle.infer_more.proofs.Common.{arith}
use Rattle.infer.proofs.EvidenceLemmas.{same_by_reads}
use Rattle.infer_more.proofs.deciding_bytes.is_whole.Goals as goal

pub returns : goal.returns
returns c = λ yes b agrees. same_by_reads c.args.buf.now b (agrees.exact (rw (← c.is_exact.ensures) yes)) (λ k lt. c.front.ensures c.args.buf.now b agrees k (omega arith) (omega (arith, lt)))
