use Rattle.infer_more.proofs.Common.{◌≡◌, false≢true, is_row_sound, further}
use Rattle.infer_more.proofs.DecidedLemmas.{first_for_good}
use Rattle.infer_more.proofs.NamedLemmas.{row_passes}
use Rattle.infer_more.proofs.RowLemmas.{has_no_row}
use Rattle.infer_more.proofs.TableLemmas.{all_sound}
use Rattle.infer_more.proofs.decided.is_first_for_good.Goals as goal

pub is_stable-requires-clause-sound : goal.is_stable-requires-clause-sound
is_stable-requires-clause-sound c = row_passes is_row_sound further c.args.i _ all_sound c.in-Some.ensures.listed

pub returns-in-Some : goal.returns-in-Some
returns-in-Some c = λ e. first_for_good c.args.parent c.args.buf.now c.args.i c.requires _ c.in-Some.ensures.listed (c.is_stable.ensures e)

pub returns-in-None : goal.returns-in-None
returns-in-None c = λ e.
    absurd (false≢true ((has_no_row (λ r. r.parent ≡ c.args.parent) c.args.i c.in-None.ensures.listed).1 (c.requires.within, c.requires.here)))
