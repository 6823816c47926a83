use Rattle.infer.proofs.Common.{◌+◌, ◌≤◌, arith, subst, sym}
use Rattle.infer.proofs.EvidenceLemmas.{row_fixed}
use Rattle.infer.specs.Evidence.{most_of}
use Rattle.infer.proofs.deciding_bytes.weigh_row.Goals as goal

pub returns-in-Some-clause-answer : goal.returns-in-Some-clause-answer
returns-in-Some-clause-answer c =
    let same = row_fixed c.args.row _ c.in-Some.ensures.some c.args.buf.now in
    let answer = c.weigh.ensures.answer in
    (λ yes. same.0 (answer.0 yes), λ h. answer.1 (same.1 h))

pub returns-in-Some-clause-proves : goal.returns-in-Some-clause-proves
returns-in-Some-clause-proves c = λ b bytes agrees.
    let here = row_fixed c.args.row _ c.in-Some.ensures.some c.args.buf.now in
    let there = row_fixed c.args.row _ c.in-Some.ensures.some b in
    let told = c.weigh.ensures.proves b agrees in
    (told.0, (λ h. here.0 (told.1.0 (there.1 h)), λ h. there.0 (told.1.1 (here.1 h))))

pub returns-in-Some-clause-few : goal.returns-in-Some-clause-few
returns-in-Some-clause-few c =
    let now = c.weigh.ensures.few in
    subst (λ s. c.weigh.new.evidence.count ≤ c.args.evidence.now.count + most_of s) (sym c.in-Some.ensures.some) (omega (arith, now))
