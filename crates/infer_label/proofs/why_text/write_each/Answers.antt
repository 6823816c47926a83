use Rattle.std.proofs.Common.{rules, subst, sym}
use Rattle.infer_label.specs.WhyText.{byte_shown}
use Rattle.infer_label.specs.Writes.{Writes}
use Rattle.infer_label.proofs.WritesLemmas.{flat_more, writes_both}
use Rattle.infer_label.proofs.why_text.write_each.Goals as goal

pub loop-byte-preserved : goal.loop-byte-preserved
loop-byte-preserved c =
    subst (Writes c.args.out.now c.write.new.self) (sym (flat_more byte_shown c.args.bytes.now c.loop-byte.byte-index 0 c.loop-byte-test.true))
    (writes_both c.loop-byte.invariant (search rules))
