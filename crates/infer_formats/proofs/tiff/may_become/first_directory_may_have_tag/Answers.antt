use Rattle.infer_formats.proofs.Common.{arith, test_from_reads}
use Rattle.infer_formats.proofs.TiffLemmas.{tag_known}
use Rattle.infer_formats.proofs.tiff.may_become.first_directory_may_have_tag.Goals as goal

pub returns : goal.returns
returns c = λ may.
    c.may_have_tag.ensures.1 (tag_known c.args.tag c.args.buf.now (test_from_reads c.args.buf.now (λ i. omega (arith, c.type_inv.buf i))) may)
