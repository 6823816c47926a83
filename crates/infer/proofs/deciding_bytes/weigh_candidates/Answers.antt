use Rattle.infer.proofs.Common.{◌≡◌, ◌<◌, ◌∙◌, arith, length, candidates_of, rules, sym}
use Rattle.infer.proofs.CandidateLemmas.{first_accepting}
use Rattle.infer.proofs.EvidenceLemmas.{few_of_first, if_some, same_candidates}
use Rattle.infer.proofs.deciding_bytes.weigh_candidates.Goals as goal

pub returns-clause-first : goal.returns-clause-first
returns-clause-first c = first_accepting c.leads.ensures c.blank.ensures c.args.buf.now _ c.weigh_rows.result (search rules) c.weigh_rows.ensures.first

pub returns-clause-decides : goal.returns-clause-decides
returns-clause-decides c = λ b bytes agrees.
    let told = c.weigh_rows.ensures.proves b bytes agrees in
    let asked = c.ask.ensures.same c.args.buf.now b told.0 in
    let first = c.new.ensures.reads c.args.buf.now b asked.1 0 (omega arith) (omega arith) in
    let here : c.candidates_at.result.now ≡ candidates_of c.args.buf.now = search rules in
    let some : 0 < length c.args.buf.now = grind arith in
    first_accepting c.leads.ensures c.blank.ensures b _ c.weigh_rows.result (here ∙ sym (same_candidates c.args.buf.now b some first.0 first.1)) told.1

pub returns-clause-few : goal.returns-clause-few
returns-clause-few c =
    let now = c.weigh_rows.ensures.few in let first = c.ask.ensures.few in let few = few_of_first c.in-Some.first.now (grind arith) in grind (arith, now, first, few, c.candidates_at.ensures.rows)

pub returns-clause-fewer : goal.returns-clause-fewer
returns-clause-fewer c =
    if_some c.args.held (λ i fewer same. let now = fewer same in let first = c.ask.ensures.few in let few = few_of_first c.in-Some.first.now (grind arith) in grind (arith, now, first, few, c.candidates_at.ensures.rows))
    c.weigh_rows.ensures.fewer
