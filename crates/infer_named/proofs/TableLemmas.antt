-- A key of the table is found in the slot of its text, and none is wrong.
use Rattle.std.proofs.Common.{◌≡◌, ℕ, List, arith}
use Rattle.std.specs.List.{find}
use Rattle.infer_named.proofs.FindLemmas.{begin_of, end_of, found_in, none_wrong, same_slot}
use Rattle.infer_named.proofs.PlacedLemmas.{right}
use Rattle.infer_named.specs.Laws.{KeysAreRight}
use Rattle.infer_named.specs.Names.{is_key, slot_of}
use Rattle.infer_named.specs.Slots.{keys_of_slot, starts}
use Rattle.infer_named.specs.Table.{keys}
use Rattle.infer_named.specs.declared.table.Part.{Part}

pub found_in_slot : (of : Part) (text : List ℕ) → find (is_key of text) keys ≡ find (is_key of text) (keys_of_slot (slot_of text))
found_in_slot of text =
    found_in starts _ (is_key of text) (begin_of starts text) (end_of starts text) (same_slot starts of text) (begin_of starts text) 0 (omega arith) keys right

-- no key is wrong
pub all_right : KeysAreRight
all_right = none_wrong starts _ 0 keys right
