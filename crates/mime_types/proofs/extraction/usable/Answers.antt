use Rattle.std.proofs.Common.{refl, sym}
use Rattle.mime_types.specs.Seen.{mime_of}
use Rattle.mime_types.proofs.ExtractedLemmas.{text_any, text_none, text_other, usable_any, usable_none, usable_other}
use Rattle.mime_types.proofs.extraction.usable.Goals as goal

pub returns-in-None-clause-says : goal.returns-in-None-clause-says
returns-in-None-clause-says c = usable_none c.args.piece.now (λ m p. let t = (c.in-None.ensures.says m).1 p in cc)

pub returns-in-None-clause-view : goal.returns-in-None-clause-view
returns-in-None-clause-view c = sym (text_none c.args.piece.now (λ m p. let t = (c.in-None.ensures.says m).1 p in cc))

pub returns-then-is-clause-says : goal.returns-then-is-clause-says
returns-then-is-clause-says c =
    usable_any c.args.piece.now (mime_of c.in-Some.found) ((c.in-Some.ensures.says (mime_of c.in-Some.found)).0 refl) (c.is.ensures.0 c.if-is.true)

pub returns-then-is-clause-view : goal.returns-then-is-clause-view
returns-then-is-clause-view c =
    sym (text_any c.args.piece.now (mime_of c.in-Some.found) ((c.in-Some.ensures.says (mime_of c.in-Some.found)).0 refl) (c.is.ensures.0 c.if-is.true))

pub returns-else-is-clause-says : goal.returns-else-is-clause-says
returns-else-is-clause-says c =
    usable_other c.args.piece.now (mime_of c.in-Some.found) ((c.in-Some.ensures.says (mime_of c.in-Some.found)).0 refl)
    (λ is. let t = c.is.ensures.1 is in cc)

pub returns-else-is-clause-view : goal.returns-else-is-clause-view
returns-else-is-clause-view c =
    let text = text_other c.args.piece.now (mime_of c.in-Some.found) ((c.in-Some.ensures.says (mime_of c.in-Some.found)).0 refl)
    (λ is. let t = c.is.ensures.1 is in cc) in
    (sym text, (c.in-Some.ensures.names.0, c.in-Some.ensures.names.1, c.in-Some.ensures.tail))
