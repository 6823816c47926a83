use Rattle.infer_notation.proofs.Common.{◌≡◌, ◌≤◌, drop, option_map, bytes_after, bytes_of, hex_joined, hex_seen}
use Rattle.infer_notation.proofs.words.bytes.Given as goal

abbrev pub invariant-loop-digit : goal.invariant-loop-digit
invariant-loop-digit l =
    (l.read.count ≤ l.digit-index) ×
    (option_map (hex_joined l.read l.left l.buf) (bytes_after l.first (drop l.digit-index l.text))
    ≡ option_map (hex_seen l.buf) (bytes_of l.text))
