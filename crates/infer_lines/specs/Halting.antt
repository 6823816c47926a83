-- What is known of the bytes of a halting writer: those of the writer that it hands on to.
use Rattle.std.specs.Prelude.{◌≡◌, ◌<◌, ℕ, Err, List, Ok, Option, Result, length}
use Rattle.std.specs.IoError.{error_kind}
use Rattle.std.specs.declared.io.Error.{Error}
use Rattle.std.specs.declared.io.ErrorKind.TheVariants.{Interrupted}
use Rattle.infer_lines.specs.declared.halting.HaltingWriter.{HaltingWriter}

abbrev pub halting_contents : {W : Type 0} → (contents : W → Option (List ℕ)) → HaltingWriter W → Option (List ℕ)
halting_contents contents w = contents w.writer

-- a write of these bytes failed: it took none of them, or ended with an error other than an interruption
abbrev pub HasFailed : List ℕ → Result ℕ Error → Type 0
HasFailed buf (Ok count) = (count ≡ 0) × (0 < length buf)
HasFailed buf (Err e) = ¬ (error_kind e ≡ Interrupted)
