use Rattle.std.proofs.Common.{None, Some}
use Rattle.mime_sniff.proofs.RowLemmas.{left_here, left_later, left_none}
use Rattle.mime_sniff.proofs.row.first_row.Goals as goal

pub returns-then-fits : goal.returns-then-fits
returns-then-fits c =
    c.loop-row.invariant (Some _) (left_here c.args.text.now c.args.rows.now c.loop-row.row-index _ c.loop-row-test.true (c.fits.ensures.0 c.if-fits.true))

pub loop-row-preserved : goal.loop-row-preserved
loop-row-preserved c told left =
    c.loop-row.invariant told
    (left_later c.args.text.now c.args.rows.now c.loop-row.row-index _ c.loop-row-test.true (λ fits. let t = c.fits.ensures.1 fits in cc) told left)

pub returns : goal.returns
returns c = c.loop-row.invariant None (left_none c.args.text.now c.args.rows.now c.loop-row.row-index c.loop-row-test.false)
