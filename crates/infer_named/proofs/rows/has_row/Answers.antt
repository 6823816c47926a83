use Rattle.std.proofs.Common.{◌∙◌, arith}
use Rattle.std.proofs.lemmas.Grind.{common_steps}
use Rattle.infer_named.proofs.RowLemmas.{set_has}
use Rattle.infer_named.proofs.rows.has_row.Goals as goal

pub returns-then-is_in : goal.returns-then-is_in
returns-then-is_in c =
    grind (arith, common_steps) ∙ set_has c.args.extension.now c.args.mime_type.now c.args.set c.ranges-range-items.result.now c.ranges-range-items.ensures

pub returns : goal.returns
returns c = grind (arith, common_steps) ∙ set_has c.args.extension.now c.args.mime_type.now c.args.set c.ranges-range-items.result.now c.ranges-range-items.ensures
