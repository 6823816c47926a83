use Rattle.infer_more.proofs.Common.{◌≡◌, drop, list_all, is_name_byte}
use Rattle.infer_more.proofs.types.names.are_name_bytes.Given as goal

abbrev pub invariant-loop-byte : goal.invariant-loop-byte
invariant-loop-byte l = list_all is_name_byte (drop l.byte-index l.text) ≡ list_all is_name_byte l.text
