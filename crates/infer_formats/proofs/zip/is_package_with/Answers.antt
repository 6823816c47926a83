use Rattle.infer_formats.proofs.ZipLemmas.{folder_decides}
use Rattle.infer_formats.proofs.zip.is_package_with.Goals as goal

pub returns-in-Some : goal.returns-in-Some
returns-in-Some c =
    let decides = folder_decides c.args.buf.now c.args.folder.now c.in-Some.place c.in-Some.ensures in (
      λ is.
          (c.may_begin_package.ensures.0 c.if-not-may_begin_package.false, c.has_part.ensures.0 c.if-not-has_part.false, decides.0 (c.stands_at.ensures.0 is)),
      λ (may, part, there). c.stands_at.ensures.1 (decides.1 there),
    )

pub returns-in-None : goal.returns-in-None
returns-in-None c = (λ is. absurd (cc), λ (may, part, (q, first, o)). absurd (c.in-None.ensures q first.0))
