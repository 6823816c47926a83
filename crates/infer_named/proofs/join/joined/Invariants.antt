use Rattle.std.proofs.Common.{◌≡◌, drop, map}
use Rattle.infer.specs.Triple.{triple_of}
use Rattle.infer_named.specs.Bytes.{lead_of}
use Rattle.infer_named.specs.Join.{reading_of}
use Rattle.infer_named.specs.Listed.{reading_listed}
use Rattle.infer_named.proofs.join.joined.Given as goal

-- what is left is found first
abbrev pub invariant-loop-reading : goal.invariant-loop-reading
invariant-loop-reading l =
    reading_of (map reading_listed (drop l.reading-index l.readings)) (triple_of l.t) (lead_of l.buf) ≡ reading_of (map reading_listed l.readings) (triple_of l.t) (lead_of l.buf)
