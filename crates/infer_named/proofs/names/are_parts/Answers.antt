use Rattle.std.proofs.Common.{◌≡◌, arith, length}
use Rattle.infer_named.proofs.VersionLemmas.{parts_ended, passed_by}
use Rattle.infer_named.proofs.names.are_parts.Goals as goal

pub loop-i-preserved : goal.loop-i-preserved
loop-i-preserved c =
    let (some, within, before) = c.loop-i.invariant in (
      omega arith,
      omega (arith, c.loop-i-test.true),
      rw (c.is_digit.ensures, c.is_digit-in-loop-i.ensures) (passed_by c.args.text.now c.loop-i.i c.loop-i.all some (omega (arith, c.loop-i-test.true)) before),
    )

pub returns : goal.returns
returns c =
    let (some, within, before) = c.loop-i.invariant in
    let end : c.loop-i.i ≡ length c.args.text.now = omega (arith, c.loop-i-test.false) in
    rw c.is_digit-2.ensures (parts_ended c.args.text.now c.loop-i.i c.loop-i.all end before)
