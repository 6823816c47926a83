use Rattle.std.proofs.Common.{refl}
use Rattle.infer_more.specs.declared.row_data.generated.TheConstants.{MIME_TYPES}
use Rattle.infer_more.proofs.AsciiLemmas.{ascii_by_test}
use Rattle.infer_more.specs.Listed.{mime_types}
use Rattle.infer_more.proofs.row_data.generated.mime_types.Goals as goal

pub returns-clause-value : goal.returns-clause-value
unfolding mime_types
returns-clause-value c = refl

pub returns-clause-ascii : goal.returns-clause-ascii
returns-clause-ascii c = ascii_by_test MIME_TYPES.now refl
