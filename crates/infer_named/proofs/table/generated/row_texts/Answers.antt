use Rattle.std.proofs.Common.{refl}
use Rattle.infer_named.specs.declared.table.generated.texts.TheConstants.{ROW_TEXTS}
use Rattle.infer_more.proofs.AsciiLemmas.{ascii_by_test}
use Rattle.infer_named.specs.Listed.{row_texts}
use Rattle.infer_named.proofs.table.generated.row_texts.Goals as goal

pub returns-clause-value : goal.returns-clause-value
unfolding row_texts
returns-clause-value c = refl

pub returns-clause-ascii : goal.returns-clause-ascii
returns-clause-ascii c = ascii_by_test ROW_TEXTS.now refl
