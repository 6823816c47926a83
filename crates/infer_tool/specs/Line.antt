-- What is written of one input.
use Rattle.std.specs.Prelude.{ℕ, List, [], ◌∷◌, ◌++◌, codes, Option, Some, None}
use Rattle.infer.specs.Triple.{Triple}
use Rattle.infer.specs.declared.read.fault.Fault.{Fault}
use Rattle.infer_lines.specs.Faults.{fault_text}

-- the line for an input of this name: the name, and what was found or that nothing was, with a line end
abbrev pub line : List ℕ → Option Triple → List ℕ
line name (Some t) = name ++ codes ": " ++ t.mime_type ++ codes " " ++ t.extension ++ 0x0A ∷ []
line name None = name ++ codes ": unknown" ++ 0x0A ∷ []

-- what is said if the type with this extension has no sample, or there is none
abbrev pub no_sample_line : List ℕ → List ℕ
no_sample_line extension = extension ++ (codes ": no sample" ++ 0x0A ∷ [])

-- what is said of words that are wrong, and of a number that is no limit
abbrev pub usage_line : List ℕ
usage_line = codes "usage: infer_tool [--front N] [PATH ..] or --sample EXT" ++ 0x0A ∷ []

abbrev pub limits_line : List ℕ
limits_line = codes "front must be 1 to 65536" ++ 0x0A ∷ []

-- the line for an input of this name that had a fault
abbrev pub fault_line : List ℕ → Fault → List ℕ
fault_line name fault = name ++ codes ": " ++ fault_text fault ++ 0x0A ∷ []
