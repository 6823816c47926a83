use Rattle.std.specs.List.{flat_map}
use Rattle.infer_label.specs.Names.{char_shown}
use Rattle.infer_label.specs.Writes.{Writes}
use Rattle.infer_label.proofs.names.write_chars.Given as goal

-- the characters so far were written
abbrev pub invariant-loop-c : goal.invariant-loop-c
invariant-loop-c l = Writes l.initial.out l.out (flat_map (char_shown l.form) l.yielded)
