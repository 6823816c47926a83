use Rattle.std.proofs.Common.{take}
use Rattle.std.specs.List.{flat_map}
use Rattle.infer_label.specs.WhyText.{byte_shown}
use Rattle.infer_label.specs.Writes.{Writes}
use Rattle.infer_label.proofs.why_text.write_each.Given as goal

-- the bytes so far were written
abbrev pub invariant-loop-byte : goal.invariant-loop-byte
invariant-loop-byte l = Writes l.initial.out l.out (flat_map byte_shown (take l.byte-index l.bytes))
