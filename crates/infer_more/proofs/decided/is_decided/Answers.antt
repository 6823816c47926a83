use Rattle.infer_more.proofs.DecidedLemmas as lemma
use Rattle.infer_more.proofs.decided.is_decided.Goals as goal

pub returns-in-Some : goal.returns-in-Some
returns-in-Some c = λ e.
    let answer = c.in-Some.ensures.decided in
    lemma.is_decided c.args.buf.now c.in-Some.parent answer.now answer.decided (c.is_widened_for_good.ensures e)
