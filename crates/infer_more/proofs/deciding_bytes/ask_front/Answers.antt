use Rattle.infer_more.proofs.Common.{◌≤◌, IfSome, arith, length, subst, take}
use Rattle.infer_more.proofs.OutlineLemmas.{buffer_of}
use Rattle.infer_more.proofs.EvidenceLemmas.{front_proves, whole_proves}
use Rattle.infer_more.specs.Evidence.{IsRowDecided}
use Rattle.infer_more.proofs.deciding_bytes.ask_front.Goals as goal

pub returns-in-Some-clause-proves : goal.returns-in-Some-clause-proves
returns-in-Some-clause-proves c = λ b bytes agrees.
    let asked = c.ask_front.ensures.same c.args.buf.now b agrees in
    let told = subst (λ front. IfSome front (λ n. (n ≤ length c.args.buf.now) × IsRowDecided c.args.told.now.i (take n c.args.buf.now))) c.in-Some.is c.requires in (
      asked.0,
      front_proves c.args.told.now.i c.args.buf.now b _ (buffer_of c.args.buf.now (λ i. omega (arith, c.type_inv.buf i))) bytes told.0 told.1
          (λ k lt. c.new.ensures.reads c.args.buf.now b asked.1 k (omega arith) (omega (arith, lt))),
    )

pub returns-in-None-clause-proves : goal.returns-in-None-clause-proves
returns-in-None-clause-proves c = λ b bytes agrees.
    let exact = c.ask_exact.ensures.exact c.args.buf.now b agrees in
    let asked = c.ask_front-in-None.ensures.same c.args.buf.now b exact.0 in (
      asked.0,
      whole_proves c.args.told.now.i c.args.buf.now b exact.1 (λ k lt. c.new-in-None.ensures.reads c.args.buf.now b asked.1 k (omega arith) (omega (arith, lt))),
    )
