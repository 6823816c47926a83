use Rattle.infer_formats.proofs.ZipLemmas.{first_known}
use Rattle.infer_formats.proofs.zip.may_become.may_become_package_with.Goals as goal

pub returns-in-Some : goal.returns-in-Some
returns-in-Some c = λ reached.
    c.stands_at.ensures.1 (first_known c.args.folder.now c.args.buf.now c.requires c.in-Some.place c.in-Some.ensures reached)
