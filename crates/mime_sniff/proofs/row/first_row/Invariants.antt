use Rattle.std.proofs.Common.{ℕ, List, Option, drop, map}
use Rattle.mime_sniff.specs.Listed.{rule_listed}
use Rattle.mime_sniff.specs.Rule.{FitsRule, FindsFirst}
use Rattle.mime_sniff.proofs.row.first_row.Given as goal

-- what the rows that are left tell, all of them tell
abbrev pub invariant-loop-row : goal.invariant-loop-row
invariant-loop-row l = (told : Option (List ℕ)) → FindsFirst (FitsRule l.text) (map rule_listed (drop l.row-index l.rows)) told → FindsFirst (FitsRule l.text) (map rule_listed l.rows) told
