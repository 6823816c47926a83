use Rattle.std.proofs.Common.{◌≡◌, ◌∙◌, ap, arith, length, map, min, set}
use Rattle.infer_c.specs.Evidence.{range_written}
use Rattle.infer_c.proofs.RangeLemmas.{written, written_all, written_more}
use Rattle.infer_c.proofs.evidence.write_ranges.Goals as goal

pub loop-k-preserved : goal.loop-k-preserved
loop-k-preserved c =
    ap (λ room. set room c.loop-k.k c.written.result) c.loop-k.invariant
    ∙ ap (λ range. set (written (map range_written c.args.ranges.now) c.args.room.now c.loop-k.k) c.loop-k.k range) c.written.ensures
    ∙ written_more range_written c.args.ranges.now c.args.room.now c.loop-k.k _ (omega arith) (omega arith)

pub returns : goal.returns
returns c =
    let e : c.loop-k.k ≡ min (length c.args.ranges.now) (length c.args.room.now) = omega arith in
    c.loop-k.invariant ∙ written_all range_written c.args.ranges.now c.args.room.now c.loop-k.k e
