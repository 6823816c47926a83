use Rattle.std.proofs.Common.{None, Some, ◌++◌}
use Rattle.std.proofs.lemmas.Bool.{OnFalse_at}
use Rattle.mime_sniff.proofs.GrowthLemmas.{fits_grown}
use Rattle.mime_sniff.proofs.RowLemmas.{left_here, left_later, left_none}
use Rattle.mime_sniff.proofs.row.settled_type.Goals as goal

pub returns-then-fits : goal.returns-then-fits
returns-then-fits c =
    c.loop-row.invariant (Some _)
    (λ more. left_here (c.args.text.now ++ more) c.args.rows.now c.loop-row.row-index _ c.loop-row-test.true
    (fits_grown c.args.text.now more _ (c.fits.ensures.0 c.if-fits.true)))

pub loop-row-preserved : goal.loop-row-preserved
loop-row-preserved c told left =
    let never = OnFalse_at c.if-may_fit.false c.may_fit.ensures in
    c.loop-row.invariant told
    (λ more. left_later (c.args.text.now ++ more) c.args.rows.now c.loop-row.row-index _ c.loop-row-test.true (never more) told (left more))

pub returns : goal.returns
returns c = c.loop-row.invariant None (λ more. left_none (c.args.text.now ++ more) c.args.rows.now c.loop-row.row-index c.loop-row-test.false)
