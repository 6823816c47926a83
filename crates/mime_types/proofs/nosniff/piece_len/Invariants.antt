use Rattle.std.proofs.Common.{◌≡◌, ◌+◌, drop}
use Rattle.mime_types.specs.Nosniff.{piece_len}
use Rattle.mime_types.specs.declared.nosniff.Place.TheVariants.{Outside}
use Rattle.mime_types.proofs.nosniff.piece_len.Given as goal

abbrev pub invariant-loop-at : goal.invariant-loop-at
invariant-loop-at l = l.at + piece_len l.place (drop l.at l.text) ≡ piece_len Outside l.text
