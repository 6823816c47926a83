-- What is written of a sample.
use Rattle.std.specs.Prelude.{◌≡◌, ◌≢◌, ℕ, List}
use Rattle.std.specs.Io.KnownBytes.{Appends, Keeps}
use Rattle.std.specs.List.{HoldsAt}
use Rattle.infer.specs.First.{IsFirst}
use Rattle.infer.specs.Questions.{HasExtension}
use Rattle.infer.specs.Samples.{sample_of}
use Rattle.infer.specs.Table.{table}
use Rattle.infer.specs.declared.table.rows.TheConstants.{DLL, EPUB_ARCHIVE}
use Rattle.infer_lines.specs.Said.{Saying}
use Rattle.infer_lines.specs.declared.outcome.Outcome.TheVariants.{Known}

-- row i is the first with the extension, and has a sample
abbrev pub HasSample : List ℕ → ℕ → Type 0
HasSample extension i = IsFirst (HasExtension extension) table i × (i ≢ DLL) × (i ≢ EPUB_ARCHIVE)

-- it is `Known`, what is known of the bytes of the writer of lines grew by the sample of row i, and no fault is told
abbrev pub WritesSample : ℕ → Saying
WritesSample i outcome old new err_old err_new =
    (outcome ≡ Known) × HoldsAt (λ r. Appends old new (sample_of r.signature)) table i × Keeps err_old err_new
