-- What is said of a watched reader.
use Rattle.std.specs.Prelude.{◌≡◌, ℕ, List, Option, Some, Result, IfOk, IfSome, IsErrOf, OnErr, OnOk, drop}
use Rattle.std.specs.Io.KnownBytes.{Consumes}
use Rattle.std.specs.declared.io.Error.{Error}
use Rattle.infer.specs.Fault.{OpensNothing, read_fault}
use Rattle.infer.specs.First.{IsAnswer}
use Rattle.infer.specs.Reading.{AnswersOpened}
use Rattle.infer.specs.Row.{Accepts}
use Rattle.infer.specs.Table.{table}
use Rattle.infer.specs.Watched.{IsDue, Loses, fault_of, inner}
use Rattle.infer.specs.declared.read.fault.Fault.{Fault}
use Rattle.infer.specs.declared.read.fault.Fault.TheVariants.{Memory}
use Rattle.infer.specs.declared.read.watched.Watched.{Watched}
use Rattle.infer.specs.declared.table.file_type.FileType.{FileType}
use Rattle.infer_sniff.specs.Verdicts.{IsSettled}
use Rattle.infer_lines.specs.Said.{Saying}
use Rattle.infer_tool.specs.Report.{IsFound, Reports, told}

-- what a reader lost: its first n bytes
abbrev pub LosesFront : ℕ → Option (List ℕ) → Option (List ℕ) → Type 0
LosesFront n old new = IfSome old (λ s. new ≡ Some (drop n s))

-- what a reader lost, but for the last piece of at most 1024 bytes, had no final verdict
abbrev pub LosesUntilFinal : Option (List ℕ) → Option (List ℕ) → Type 0
LosesUntilFinal old new = (bytes : List ℕ) × Consumes old new bytes × IsDue 1024 IsSettled bytes

-- an answer is that of the first n bytes, and the reader lost what it says. The fault is `Read` exactly if a read
-- failed, and of that kind; then fewer bytes are gone. Want of memory leaves the reader as it was. Nothing is opened.
pub record AnswersInput {R : Type 0} (remaining : R → Option (List ℕ)) (n : ℕ) (Lost : (old new : Option (List ℕ)) → Type 0)
    (old new : Watched R) (answer : Result (Option FileType) Fault) : Type 0 where
  pub found : IfOk (told answer) (IsFound n (remaining (inner old)))
  pub lost : OnOk answer (Lost (remaining (inner old)) (remaining (inner new)))
  pub fault : fault_of new ≡ read_fault answer
  pub less : OnErr answer (Loses n (remaining (inner old)) (remaining (inner new)))
  pub memory : IsErrOf answer Memory → new ≡ old
  pub opens_nothing : OpensNothing answer

-- the report of such an answer, or of such a fault
abbrev pub ReportsReader : {R : Type 0} (remaining : R → Option (List ℕ)) (n : ℕ) (Lost : (old new : Option (List ℕ)) → Type 0)
    (old new : Watched R) → List ℕ → Saying
ReportsReader remaining n Lost before after name outcome old new err_old err_new =
    (answer : Result (Option FileType) Fault) × AnswersInput remaining n Lost before after answer
    × Reports name (told answer) outcome old new err_old err_new

-- the report of what was opened, or of the fault that stands for the error in its place
abbrev pub ReportsOpened : {R : Type 0} (remaining : R → Option (List ℕ)) (n : ℕ) (old new : Result (Watched R) Error) → List ℕ → Saying
ReportsOpened remaining n before after name outcome old new err_old err_new =
    (answer : Result (Option FileType) Fault) × AnswersOpened remaining n (λ b. IsAnswer (Accepts b) table) before after answer
    × Reports name (told answer) outcome old new err_old err_new
