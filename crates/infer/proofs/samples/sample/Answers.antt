use Rattle.infer.proofs.Common.{arith, length}
use Rattle.infer.proofs.SampleLemmas.{sample_holds, written_first}
use Rattle.infer.proofs.samples.sample.Goals as goal

pub returns-clause-holds : goal.returns-clause-holds
returns-clause-holds c = rw c.write.ensures (sample_holds c.args.i c.of_row-text.result.now c.of_row-text.ensures.is)

pub returns-clause-first : goal.returns-clause-first
returns-clause-first c =
    written_first c.args.i (length c.of_row-text.result.now) c.write.new.out (omega arith)
    (rw c.write.ensures (sample_holds c.args.i c.of_row-text.result.now c.of_row-text.ensures.is))
    (c.reach.ensures c.args.i (omega arith) c.if-i-eq-DLL.false c.if-i-eq-EPUB_ARCHIVE.false)
