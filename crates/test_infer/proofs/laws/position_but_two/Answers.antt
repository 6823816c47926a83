use Rattle.std.proofs.Common.{◌≢◌, ℕ, List, Option, None, Some, IfSome}
use Rattle.infer.specs.First.{IsFirst, IsFirstOf}
use Rattle.infer.specs.Row.{Accepts}
use Rattle.infer.specs.Table.{table}
use Rattle.infer.specs.declared.table.rows.TheConstants.{DLL, EPUB_ARCHIVE}
use Rattle.test_infer.proofs.laws.position_but_two.Goals as goal

but_two : (buf : List ℕ) (o : Option ℕ) → ((i : ℕ) → IsFirst (Accepts buf) table i → (i ≢ DLL) × (i ≢ EPUB_ARCHIVE)) → IsFirstOf (Accepts buf) table o
    → IfSome o (λ i. (i ≢ DLL) × (i ≢ EPUB_ARCHIVE))
but_two buf None never none = tt
but_two buf (Some i) never first = never i first

pub returns : goal.returns
returns c = but_two c.args.buf.now c.position.result (c.never.ensures c.args.buf.now) c.position.ensures.first
