use Rattle.std.proofs.Common.{take}
use Rattle.std.specs.List.{flat_map}
use Rattle.infer_label.specs.Names.{byte_shown}
use Rattle.infer_label.specs.Writes.{Writes}
use Rattle.infer_label.proofs.names.write_bytes.Given as goal

-- the bytes so far were written
abbrev pub invariant-loop-byte : goal.invariant-loop-byte
invariant-loop-byte l = Writes l.initial.out l.out (flat_map (byte_shown l.form) (take l.byte-index l.name))
