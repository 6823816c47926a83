-- What a clause reads of a watched writer, and of two of them.
use Rattle.std.specs.Prelude.{◌≡◌, ◌≢◌, Bool, IsTrue}
use Rattle.infer_lines.specs.declared.outcome.Outcome.{Outcome}
use Rattle.infer_lines.specs.declared.outcome.Outcome.TheVariants.{Failed}
use Rattle.infer_lines.specs.declared.writer.Output.{Output}
use Rattle.infer_lines.specs.declared.writer.WatchedWriter.{WatchedWriter}

-- the writer that it was lent, as it is now
abbrev pub inner : {W : Type 0} → WatchedWriter W → W
inner w = w.writer.now

-- a write or a flush of it has failed
abbrev pub has_failed : {W : Type 0} → WatchedWriter W → Bool
has_failed w = w.has_failed

-- it is over the same writer, and what has failed stays failed
abbrev pub IsLater : {W : Type 0} → (old new : WatchedWriter W) → Type 0
IsLater old new = (new.writer.ghost_name ≡ old.writer.ghost_name) × (IsTrue (has_failed old) → IsTrue (has_failed new))

-- both writers are later ones, and that of faults is as it was unless the outcome is `Failed`
abbrev pub IsAfter : {W E : Type 0} → (old new : Output W E) → Outcome → Type 0
IsAfter old new result = IsLater old.out new.out × IsLater old.err new.err × (result ≢ Failed → new.err ≡ old.err)
