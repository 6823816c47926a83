-- What is said of a fault.
use Rattle.std.specs.Prelude.{ℕ, List, codes}
use Rattle.infer.specs.declared.read.fault.Fault.{Fault}
use Rattle.infer.specs.declared.read.fault.Fault.TheVariants.{Open, Read, Memory}

-- what is said of a fault
abbrev pub fault_text : Fault → List ℕ
fault_text (Open kind) = codes "cannot open"
fault_text (Read kind) = codes "cannot read"
fault_text Memory = codes "no memory"
