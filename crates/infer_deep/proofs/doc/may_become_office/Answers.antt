use Rattle.infer_deep.proofs.Common.{arith}
use Rattle.infer_deep.proofs.OpenOfficeLemmas.{office_reached, office_known}
use Rattle.infer_deep.proofs.doc.may_become_office.Goals as goal

pub returns-then-may_have_office_name : goal.returns-then-may_have_office_name
returns-then-may_have_office_name g c =
    grind (arith, office_reached c.args.folder.now c.requires c.args.buf.now, office_known c.args.folder.now c.args.buf.now)
