use Rattle.std.proofs.Common.{◌≡◌, drop, map}
use Rattle.infer_named.specs.Bytes.{lead_of}
use Rattle.infer_named.specs.Join.{reading_without}
use Rattle.infer_named.specs.Listed.{reading_listed}
use Rattle.infer_named.proofs.join.reading_without.Given as goal

abbrev pub invariant-loop-reading : goal.invariant-loop-reading
invariant-loop-reading l =
    reading_without (map reading_listed (drop l.reading-index l.readings)) l.kind (lead_of l.buf) ≡ reading_without (map reading_listed l.readings) l.kind (lead_of l.buf)
