-- What is said through writers, and what it says of the writers below buffers.
use Rattle.std.specs.Prelude.{◌≡◌, ℕ, Bool, true, false, List, Option, None}
use Rattle.std.specs.Bool.{OnFalse}
use Rattle.std.specs.Option.{is_none, option_and_then}
use Rattle.std.specs.Io.KnownBytes.{Appends, Keeps}
use Rattle.infer_lines.specs.Outcome.{outcome_after}
use Rattle.infer_lines.specs.Writer.{has_failed, inner}
use Rattle.infer_lines.specs.declared.outcome.Outcome.{Outcome}
use Rattle.infer_lines.specs.declared.outcome.Outcome.TheVariants.{Failed}
use Rattle.infer_lines.specs.declared.writer.Output.{Output}
use Rattle.infer_lines.specs.declared.writer.WatchedWriter.{WatchedWriter}

-- nothing is said of the bytes of a writer that has failed
abbrev pub unless_failed : Bool → Option (List ℕ) → Option (List ℕ)
unless_failed true bytes = None
unless_failed false bytes = bytes

-- what is known of the bytes of a writer grew by exactly a line, unless the writer has failed
abbrev pub AddsLine : {W : Type 0} (contents : W → Option (List ℕ)) (old new : WatchedWriter W) → List ℕ → Type 0
AddsLine contents old new told_line = OnFalse (has_failed new) (Appends (contents (inner old)) (contents (inner new)) told_line)

-- what a run says: its outcome, and the bytes of the writers of lines and of faults, before and after
abbrev pub Saying : Type 1
Saying = Outcome → (old new err_old err_new : Option (List ℕ)) → Type 0

-- this is said through an output. Of the bytes of a writer that has failed nothing is said; what is said of the other
-- stands. The outcome is `Failed` if the writer of lines has failed.
abbrev pub Says : {W E : Type 0} (contents : W → Option (List ℕ)) (err_contents : E → Option (List ℕ)) (old new : Output W E)
    → Outcome → Saying → Type 0
Says contents err_contents old new result Said =
    (outcome : Outcome) × (result ≡ outcome_after (has_failed new.out) outcome)
    × Said outcome (unless_failed (has_failed new.out) (contents (inner old.out))) (contents (inner new.out))
    (unless_failed (has_failed new.err) (err_contents (inner old.err))) (err_contents (inner new.err))

-- the outcome is `Failed`, the writer of lines is as it was, and the writer of faults was told this line
abbrev pub RefusesBy : {W E : Type 0} (err_contents : E → Option (List ℕ)) (old new : Output W E) → Outcome → List ℕ → Type 0
RefusesBy err_contents old new result refusal = (result ≡ Failed) × (new.out ≡ old.out) × AddsLine err_contents old.err new.err refusal

-- this was said through buffers, which gave their writers back, or none of one that has failed
abbrev pub SaysThrough : {W E : Type 0} (contents : W → Option (List ℕ)) (err_contents : E → Option (List ℕ))
    (out : W) (err : E) → Outcome × (Option W × Option E) → Saying → Type 0
SaysThrough contents err_contents out err done Said =
    (outcome : Outcome) × (done.0 ≡ outcome_after (is_none done.1.0) outcome)
    × Said outcome (unless_failed (is_none done.1.0) (contents out)) (option_and_then contents done.1.0)
    (unless_failed (is_none done.1.1) (err_contents err)) (option_and_then err_contents done.1.1)

-- words that are wrong: nothing is written but this line, which says so
abbrev pub Refuses : List ℕ → Saying
Refuses refusal outcome old new err_old err_new = (outcome ≡ Failed) × Keeps old new × Appends err_old err_new refusal
