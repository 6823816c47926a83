-- What is written of a stream.
use Rattle.std.specs.Prelude.{◌≡◌, ℕ, List, Option, None, Some, codes}
use Rattle.infer.specs.First.{IsAnswer}
use Rattle.infer.specs.Row.{Accepts}
use Rattle.infer.specs.Table.{table}
use Rattle.infer.specs.Triple.{Triple}

-- the MIME type of an answer, and "unknown" if there is none
abbrev pub label_of : Option Triple → List ℕ
label_of None = codes "unknown"
label_of (Some t) = t.mime_type

-- the text is the label of the buffer's answer
abbrev pub IsLabel : List ℕ → List ℕ → Type 0
IsLabel b text = (answer : Option Triple) × IsAnswer (Accepts b) table answer × (text ≡ label_of answer)
