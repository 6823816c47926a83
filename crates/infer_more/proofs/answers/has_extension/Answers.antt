use Rattle.infer_more.proofs.Common.{◌≡◌, ◌≤◌, below_more, length, arith, false≢true, Further, further}
use Rattle.infer_more.proofs.RowLemmas.{none_of_all}
use Rattle.infer_more.proofs.TableLemmas.{length-further}
use Rattle.infer_more.proofs.answers.has_extension.Goals as goal

pub loop-i-preserved : goal.loop-i-preserved
loop-i-preserved c = below_more _ _ c.loop-i.invariant (λ h. false≢true (c.if-shows_extension.ensures.1 h))

pub returns : goal.returns
returns c =
    let many = length-further in
    let le : length further ≤ c.loop-i.i = omega arith in
    none_of_all (λ (r : Further). r.shows.extension ≡ c.args.extension.now) c.loop-i.i le c.loop-i.invariant
