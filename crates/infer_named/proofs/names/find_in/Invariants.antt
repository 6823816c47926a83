use Rattle.std.proofs.Common.{◌≡◌, drop, map}
use Rattle.std.specs.List.{find}
use Rattle.infer_named.specs.Listed.{key_listed}
use Rattle.infer_named.specs.Names.{is_key, small}
use Rattle.infer_named.proofs.names.find_in.Given as goal

-- what is left is found first
abbrev pub invariant-loop-key : goal.invariant-loop-key
invariant-loop-key l = find (is_key l.part (small l.text)) (map key_listed (drop l.key-index l.names)) ≡ find (is_key l.part (small l.text)) (map key_listed l.names)
