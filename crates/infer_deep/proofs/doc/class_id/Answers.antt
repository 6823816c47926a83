use Rattle.infer_deep.proofs.Common.{arith}
use Rattle.infer_deep.proofs.ClassIdLemmas.{class_id_read}
use Rattle.infer_deep.proofs.doc.class_id.Goals as goal

pub returns : goal.returns
returns c = λ id long. class_id_read c.args.buf.now id c.in_ok-root.root _ (omega arith) c.in_ok-root.ensures long
