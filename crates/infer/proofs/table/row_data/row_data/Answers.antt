use Rattle.infer.proofs.Common.{◌∙◌, None, Some, ap, refl}
use Rattle.std.proofs.lemmas.Option.{slice_get_read}
use Rattle.infer.proofs.EvidenceLemmas.{row_listed_at}
use Rattle.infer.proofs.table.row_data.row_data.Goals as goal

pub returns-in-Some-Some-clause-some : goal.returns-in-Some-Some-clause-some
returns-in-Some-Some-clause-some c =
    let list = c.list_of-first.ensures in
    let h = c.in-Some-Some.ensures.lookup in
    row_listed_at c.args.row c.list_of-first.result.0 10 c.list_of-first.result.1.now list.begins list.listed (Some c.in-Some-Some.data)
    (slice_get_read _ _ _ _ refl h.3.0 h.1 ∙ ap Some c.in-Some-Some.field-0-is)

pub returns-in-Some-None-clause-none : goal.returns-in-Some-None-clause-none
returns-in-Some-None-clause-none c = λ none within.
    let list = c.list_of-first.ensures in
    let h = c.in-Some-None.ensures.lookup in
    row_listed_at c.args.row c.list_of-first.result.0 10 c.list_of-first.result.1.now list.begins list.listed None
    (slice_get_read _ _ _ _ refl h.3.0 h.1 ∙ ap Some c.in-Some-None.field-0-is)
