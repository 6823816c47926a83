use Rattle.std.proofs.Common.{◌≡◌, drop}
use Rattle.std.specs.List.{list_any}
use Rattle.infer_named.specs.Odd.{is_control}
use Rattle.infer_named.proofs.suspicious_name.has_control.Given as goal

-- what is left has one exactly if all has
abbrev pub invariant-loop-byte : goal.invariant-loop-byte
invariant-loop-byte l = list_any is_control (drop l.byte-index l.name) ≡ list_any is_control l.name
