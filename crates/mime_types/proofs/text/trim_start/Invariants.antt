use Rattle.std.proofs.Common.{◌≡◌, ◌+◌, drop}
use Rattle.std.specs.List.{prefix_len}
use Rattle.mime_types.specs.Bytes.{is_white}
use Rattle.mime_types.proofs.text.trim_start.Given as goal

abbrev pub invariant-loop-at : goal.invariant-loop-at
invariant-loop-at l = l.at + prefix_len is_white (drop l.at l.text) ≡ prefix_len is_white l.text
