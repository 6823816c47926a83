-- The slots of keys. A slot has those that stand from where it begins to where the next does.
use Rattle.std.specs.Prelude.{◌+◌, ◌-◌, ℕ, List, get_or}
use Rattle.infer_named.specs.Key.{Key}
use Rattle.infer_evidence.specs.Spans.{stretch}
use Rattle.infer_named.specs.Table.{keys}
use Rattle.infer_named.specs.declared.table.generated.keys.TheConstants.{STARTS}

-- where the keys of each slot begin
unfoldable pub starts : List ℕ
starts = STARTS

abbrev pub keys_of_slot : ℕ → List Key
keys_of_slot n = stretch keys (get_or starts n 0) (get_or starts (n + 1) 0 - get_or starts n 0)
