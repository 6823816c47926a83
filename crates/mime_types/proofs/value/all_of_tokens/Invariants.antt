use Rattle.std.proofs.Common.{◌≡◌, length}
use Rattle.std.specs.List.{list_all}
use Rattle.mime_types.specs.Bytes.{is_token}
use Rattle.mime_types.specs.Seen.{value_seen}
use Rattle.mime_types.proofs.value.all_of_tokens.Given as goal

-- all the bytes before are of tokens
abbrev pub invariant-loop-byte : goal.invariant-loop-byte
invariant-loop-byte l = list_all is_token (value_seen l.left) ≡ list_all is_token (value_seen l.value)

abbrev pub decreases-loop-byte : goal.decreases-loop-byte
decreases-loop-byte l = length l.left.text.now
