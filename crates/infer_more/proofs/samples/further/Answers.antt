use Rattle.infer_more.proofs.Common.{Some, ◌+◌, ROW_COUNT, row_listed, further_sample, has_room, further, IsWider}
use Rattle.infer_more.proofs.NamedLemmas.{row_passes}
use Rattle.infer_more.proofs.WrittenLemmas.{holds_written, row_answered}
use Rattle.infer_more.proofs.samples.further.Goals as goal

pub of_row-requires : goal.of_row-requires
of_row-requires c = row_passes has_room further c.args.i (row_listed c.in_ok-row_at.field-0.now) c.room.ensures c.in_ok-row_at.ensures.listed

pub returns-clause-answers : goal.returns-clause-answers
returns-clause-answers c =
    let r = row_listed c.in_ok-row_at.field-0.now in
    holds_written (λ s. IsWider s (Some (ROW_COUNT + c.args.i))) (further_sample r) c.of_row.result c.args.out.now c.of_row.new.out
    (row_answered c.reach.ensures c.args.i r c.in_ok-row_at.ensures.listed) c.of_row.ensures.counted c.of_row.ensures.written
