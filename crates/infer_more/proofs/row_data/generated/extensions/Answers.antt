use Rattle.std.proofs.Common.{refl}
use Rattle.infer_more.specs.declared.row_data.generated.TheConstants.{EXTENSIONS}
use Rattle.infer_more.proofs.AsciiLemmas.{ascii_by_test}
use Rattle.infer_more.specs.Listed.{extensions}
use Rattle.infer_more.proofs.row_data.generated.extensions.Goals as goal

pub returns-clause-value : goal.returns-clause-value
unfolding extensions
returns-clause-value c = refl

pub returns-clause-ascii : goal.returns-clause-ascii
returns-clause-ascii c = ascii_by_test EXTENSIONS.now refl
