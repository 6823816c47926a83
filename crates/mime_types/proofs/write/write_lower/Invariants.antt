use Rattle.std.proofs.Common.{◌≤◌, ℕ, List, Option, drop, length}
use Rattle.mime_types.specs.Text.{lower}
use Rattle.mime_types.specs.Wrote.{Wrote}
use Rattle.mime_types.proofs.write.write_lower.Given as goal

-- what is written after the bytes so far is written after all of them
abbrev pub invariant-loop-byte : goal.invariant-loop-byte
invariant-loop-byte l = record {
  within : l.end ≤ length l.out;
  all : (c : List ℕ) (o : Option ℕ) → Wrote l.out c l.end (lower (drop l.byte-index l.text)) o → Wrote l.initial.out c l.at (lower l.text) o;
}
