use Rattle.std.proofs.Common.{◌≤◌, ℕ, List, Option, length}
use Rattle.mime_types.specs.Seen.{value_seen}
use Rattle.mime_types.specs.Serialize.{escaped}
use Rattle.mime_types.specs.Wrote.{Wrote}
use Rattle.mime_types.proofs.write.write_escaped.Given as goal

-- what is written after the bytes so far is written after all of them
abbrev pub invariant-loop-byte : goal.invariant-loop-byte
invariant-loop-byte l = record {
  within : l.end ≤ length l.out;
  all : (c : List ℕ) (o : Option ℕ) → Wrote l.out c l.end (escaped (value_seen l.left)) o
      → Wrote l.initial.out c l.at (escaped (value_seen l.value)) o;
}

abbrev pub decreases-loop-byte : goal.decreases-loop-byte
decreases-loop-byte l = length l.left.text.now
