use Rattle.std.proofs.Common.{Some, take, refl}
use Rattle.infer.specs.Matchers.{is_far_row}
use Rattle.infer.specs.Table.{signature_of, table}
use Rattle.infer.specs.declared.table.rows.TheConstants.{DOC}
use Rattle.test_infer.proofs.laws.document_breaks.Goals as goal

pub returns : goal.returns
unfolding is_far_row signature_of table
returns c =
    let found = c.breaks.ensures.rows DOC refl in (
      found.0,
      found.1.first,
      λ first.
          found.1.other (c.single.ensures (take 1024 found.0) found.1.front (Some DOC) found.1.front_first first),
    )
