use Rattle.std.proofs.Common.{◌≤◌, ℕ, List, Option, length}
use Rattle.mime_types.specs.Left.{left}
use Rattle.mime_types.specs.Serialize.{parameters_text}
use Rattle.mime_types.specs.Parameters.{parameters}
use Rattle.mime_types.specs.Wrote.{Wrote}
use Rattle.mime_types.proofs.write.write_parameters.Given as goal

-- what is written after the parameters so far is written after all of them
abbrev pub invariant-loop-parameter : goal.invariant-loop-parameter
invariant-loop-parameter l = record {
  within : l.end ≤ length l.out;
  all : (c : List ℕ) (o : Option ℕ) → Wrote l.out c l.end (parameters_text (left l.left)) o
      → Wrote l.initial.out c l.at (parameters_text (parameters l.tail)) o;
}

abbrev pub decreases-loop-parameter : goal.decreases-loop-parameter
decreases-loop-parameter l = length (left l.left)
