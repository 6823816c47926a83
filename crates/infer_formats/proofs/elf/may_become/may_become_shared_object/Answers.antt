use Rattle.infer_formats.proofs.Common.{arith, test_from_reads}
use Rattle.infer_formats.proofs.ElfLemmas.{object_known}
use Rattle.infer_formats.proofs.elf.may_become.may_become_shared_object.Goals as goal

pub returns : goal.returns
returns c = λ may.
    c.may_be_shared_object.ensures.1 (object_known c.args.buf.now (test_from_reads c.args.buf.now (λ i. omega (arith, c.type_inv.buf i))) may)
