-- What is said of an input, and what an outcome says of it.
use Rattle.std.specs.Prelude.{◌≡◌, ◌≤◌, ℕ, List, [], Option, None, Some, Result, Ok, Err, IfOk, IfSome, length, option_map}
use Rattle.std.specs.Io.KnownBytes.{Appends}
use Rattle.infer.specs.Buffer.{IsBuffer, head}
use Rattle.infer.specs.First.{IsAnswer}
use Rattle.infer.specs.Row.{Accepts}
use Rattle.infer.specs.Table.{table}
use Rattle.infer.specs.Triple.{Triple, triple_of}
use Rattle.infer.specs.declared.read.fault.Fault.{Fault}
use Rattle.infer.specs.declared.table.file_type.FileType.{FileType}
use Rattle.infer_lines.specs.Said.{Saying}
use Rattle.infer_lines.specs.declared.outcome.Outcome.{Outcome}
use Rattle.infer_lines.specs.declared.outcome.Outcome.TheVariants.{Known, Unknown, Failed}
use Rattle.infer_tool.specs.Line.{fault_line, line}

-- what was found, or the fault
abbrev pub told : Result (Option FileType) Fault → Result (Option Triple) Fault
told (Ok found) = Ok (option_map triple_of found)
told (Err fault) = Err fault

-- the outcome: that of a type, of none, or of a fault
abbrev pub outcome_of : Result (Option Triple) Fault → Outcome
outcome_of (Ok (Some t)) = Known
outcome_of (Ok None) = Unknown
outcome_of (Err fault) = Failed

-- what is written: the line, and nothing if there was a fault
abbrev pub written : List ℕ → Result (Option Triple) Fault → List ℕ
written name (Ok found) = line name found
written name (Err fault) = []

-- what is written of a fault, and nothing if there was none
abbrev pub fault_written : List ℕ → Result (Option Triple) Fault → List ℕ
fault_written name (Ok found) = []
fault_written name (Err fault) = fault_line name fault

-- the outcome is that of what was found, and what is known of the writers' bytes grew by exactly what is written
abbrev pub Reports : List ℕ → Result (Option Triple) Fault → Saying
Reports name answer outcome old new err_old err_new =
    (outcome ≡ outcome_of answer) × Appends old new (written name answer) × Appends err_old err_new (fault_written name answer)

-- the answer of some bytes, at most n, and of the first n of those that were left, if these are known
abbrev pub IsFound : ℕ → Option (List ℕ) → Option Triple → Type 0
IsFound n left found =
    ((b : List ℕ) × IsBuffer b × (length b ≤ n) × IsAnswer (Accepts b) table found) × IfSome left (λ s. IsAnswer (Accepts (head n s)) table found)

-- the report of an input of which at most n bytes are looked at, and of which so many bytes are left: of a fault, or of
-- the answer
abbrev pub ReportsInput : ℕ → Option (List ℕ) → List ℕ → Saying
ReportsInput n left name outcome old new err_old err_new =
    (answer : Result (Option Triple) Fault) × IfOk answer (IsFound n left) × Reports name answer outcome old new err_old err_new
