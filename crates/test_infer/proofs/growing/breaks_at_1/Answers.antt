use Rattle.std.proofs.Common.{arith, refl}
use Rattle.infer.specs.declared.table.rows.TheConstants.{EXE}
use Rattle.test_infer.proofs.BufferLemmas.{IsBuffer-bytes}
use Rattle.test_infer.proofs.GrowingLemmas.{breaks}
use Rattle.test_infer.proofs.growing.breaks_at_1.Goals as goal

pub returns : goal.returns
returns c =
    breaks 1 EXE c.args.buf.now c.position.result c.are_same.result (IsBuffer-bytes c.args.buf.now (λ i. omega (arith, c.type_inv.buf i)))
    (omega arith) (c.if-not-is_first.ensures.0 refl) c.position.ensures.first c.are_same.ensures
