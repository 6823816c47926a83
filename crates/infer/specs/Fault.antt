-- What a result says of a fault.
use Rattle.std.specs.Prelude.{Option, None, Some, Result, Ok, Err}
use Rattle.std.specs.declared.io.ErrorKind.{ErrorKind}
use Rattle.infer.specs.declared.read.fault.Fault.{Fault}
use Rattle.infer.specs.declared.read.fault.Fault.TheVariants.{Open, Read, Memory}

-- the kind in `Err(Read(kind))`, and none at any other result
abbrev pub read_fault : {A : Type 0} → Result A Fault → Option ErrorKind
read_fault (Ok x) = None
read_fault (Err (Open kind)) = None
read_fault (Err (Read kind)) = Some kind
read_fault (Err Memory) = None

-- it is no `Err(Open(kind))`
abbrev pub OpensNothing : {A : Type 0} → Result A Fault → Type 0
OpensNothing (Ok x) = Unit {0}
OpensNothing (Err (Open kind)) = ⊥
OpensNothing (Err (Read kind)) = Unit {0}
OpensNothing (Err Memory) = Unit {0}
