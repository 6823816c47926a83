-- The rows as the code lists them. None of them is a tag.
use Rattle.std.specs.Prelude.{false}
use Rattle.mime_sniff.specs.Row.{Pattern}
use Rattle.mime_sniff.specs.Rule.{Rule, fixed}
use Rattle.mime_sniff.specs.declared.row.Row as code

abbrev pub pattern_listed : code.Row → Pattern
pattern_listed row = record {
  bytes = row.pattern.now;
  mask = row.mask.now;
  ignores_white = row.ignores_white;
  ends_tag = false;
}

abbrev pub rule_listed : code.Row → Rule
rule_listed row = record { signature = fixed (pattern_listed row); mime_type = row.mime_type.now }
