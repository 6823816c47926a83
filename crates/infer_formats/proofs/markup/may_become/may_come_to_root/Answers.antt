use Rattle.infer_formats.proofs.MarkupLemmas.{root_reached}
use Rattle.infer_formats.proofs.markup.may_become.may_come_to_root.Goals as goal

pub returns : goal.returns
returns c = λ name reached.
    let end = c.prolog_end.ensures in
    c.may_reach_tag.ensures.1 (root_reached c.args.buf.now name c.prolog_start.result c.prolog_end.result.place c.prolog_end.result.doctype
    (λ h. (let t = c.ends_in_mark.ensures.1 h in cc)) c.prolog_start.ensures.begins end.grown end.ends reached)
