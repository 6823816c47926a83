use Rattle.infer_formats.proofs.ZipLemmas.{folder_says, none_begins}
use Rattle.infer_formats.proofs.zip.package_folder.Goals as goal

pub returns-in-Some : goal.returns-in-Some
returns-in-Some c = λ folder application.
    folder_says c.args.buf.now folder application c.in-Some.place
    (c.may_begin_any_package.ensures.0 c.if-not-may_begin_any_package.false) (c.has_part.ensures.0 c.if-not-has_part.false) c.in-Some.ensures

pub returns-in-None : goal.returns-in-None
returns-in-None c = λ folder application. λ (may, part, (q, first, o)). absurd (c.in-None.ensures q first.0)

pub returns-then-not-may_begin_any_package : goal.returns-then-not-may_begin_any_package
returns-then-not-may_begin_any_package c = λ folder application.
    none_begins c.args.buf.now folder application (λ may. let is = c.may_begin_any_package.ensures.1 may in absurd (cc))

pub returns-then-not-has_part : goal.returns-then-not-has_part
returns-then-not-has_part c = λ folder application. λ (may, part, first). let is = c.has_part.ensures.1 part in absurd (cc)
