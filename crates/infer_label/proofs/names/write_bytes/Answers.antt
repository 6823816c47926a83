use Rattle.std.proofs.Common.{subst, sym}
use Rattle.infer_label.specs.Names.{byte_shown}
use Rattle.infer_label.specs.Writes.{Writes}
use Rattle.infer_label.proofs.WritesLemmas.{flat_more, writes_both}
use Rattle.infer_label.proofs.names.write_bytes.Goals as goal

pub loop-byte-preserved : goal.loop-byte-preserved
loop-byte-preserved c =
    subst (Writes c.args.out.now c.write_byte.new.out) (sym (flat_more (byte_shown c.args.form) c.args.name.now c.loop-byte.byte-index 0 c.loop-byte-test.true))
    (writes_both c.loop-byte.invariant c.write_byte.ensures)
