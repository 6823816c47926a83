use Rattle.std.proofs.Common.{[], arith}
use Rattle.infer.specs.BuiltIn.{html}
use Rattle.infer.specs.Table.{row}
use Rattle.infer.specs.declared.table.file_type.MatcherType.TheVariants.{Text}
use Rattle.infer.specs.declared.table.rows.TheConstants.{GIF, PDF}
use Rattle.test_infer.proofs.laws.no_pdf_after_gif.Goals as goal

pub returns : goal.returns
returns c = λ b here may. (c.later.ensures.needs b PDF may).1 GIF (row Text [] [] html) (omega arith) (omega arith) (here (row Text [] [] html))
