use Rattle.std.proofs.Common.{[], arith}
use Rattle.infer.specs.BuiltIn.{html}
use Rattle.infer.specs.Table.{row}
use Rattle.infer.specs.declared.table.file_type.MatcherType.TheVariants.{Text}
use Rattle.infer.specs.declared.table.rows.TheConstants.{SHELLSCRIPT}
use Rattle.test_infer.proofs.laws.script_is_reached.Goals as goal

pub returns : goal.returns
returns c = (_, c.reach.ensures SHELLSCRIPT (omega arith) (λ e. omega arith) (λ e. omega arith) (row Text [] [] html))
