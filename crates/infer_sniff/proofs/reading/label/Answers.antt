use Rattle.infer_sniff.proofs.Common.{arith, ◌≤◌, length}
use Rattle.infer_sniff.proofs.LabelLemmas.{of_front}
use Rattle.infer_sniff.proofs.reading.label.Goals as goal

pub returns-clause-answer : goal.returns-clause-answer
returns-clause-answer g c =
    let read = c.in_ok-read_until.ensures in
    let ok = c.in_ok-read_until.field-0.ok in
    let few : length c.in_ok-read_until.field-0.items ≤ 8192 = omega (arith, read.few) in
    rw c.found.ensures (of_front 8192 _ few _ _ _ read.kept.0 read.kept.1 read.taken (λ less. read.end (omega arith)))
