use Rattle.std.proofs.Common.{ℕ, List, Option, drop, map}
use Rattle.mime_sniff.specs.Growth.{FitForGood}
use Rattle.mime_sniff.specs.Listed.{rule_listed}
use Rattle.mime_sniff.proofs.row.settled_type.Given as goal

-- what the rows that are left tell for good, all of them tell
abbrev pub invariant-loop-row : goal.invariant-loop-row
invariant-loop-row l = (told : Option (List ℕ)) → FitForGood l.text (map rule_listed (drop l.row-index l.rows)) told → FitForGood l.text (map rule_listed l.rows) told
