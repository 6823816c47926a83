use Rattle.infer.proofs.Common.{◌≡◌, arith, rules, tests, YieldsList-from_slice, first_from_find, Accepts, RowHas, candidates_of}
use Rattle.infer.proofs.AskLemmas.{among_of_find}
use Rattle.infer.proofs.CandidateLemmas.{first_accepting}
use Rattle.infer.proofs.TableLemmas.{length-table}
use Rattle.infer.proofs.answers.position.Goals as goal

pub returns-clause-first : goal.returns-clause-first
returns-clause-first c =
    let P = RowHas (Accepts c.args.buf.now) in
    let rows = c.candidates_of.result.now in
    let same : rows ≡ candidates_of c.args.buf.now = c.candidates_of.ensures.rows c.args.buf.now (search rules) in
    rw c.copied-2.ensures (first_accepting c.leads.ensures c.blank.ensures c.args.buf.now rows _ same (among_of_find P rows c.find.result
    (first_from_find _ _ c.find.result P (λ i. ¬ P i) c.find.ensures.ran (YieldsList-from_slice rows c.iter.ensures.rest)
    (λ x q k. search (rules, tests)) (λ x q k. search (rules, tests)))))

pub returns-clause-bound : goal.returns-clause-bound
returns-clause-bound c = let first = returns-clause-first c in grind (arith, length-table)
