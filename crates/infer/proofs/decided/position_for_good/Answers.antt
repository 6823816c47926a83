use Rattle.infer.proofs.Common.{◌≡◌, ◌<◌, length, Some, None, arith, rules}
use Rattle.infer.proofs.DecidedLemmas.{answer_by_first, answer_if_none, empty_changes, first_open_row}
use Rattle.infer.proofs.LawLemmas.{every_lasts}
use Rattle.infer.proofs.decided.position_for_good.Goals as goal

pub returns-in_err-first-clause-open : goal.returns-in_err-first-clause-open
returns-in_err-first-clause-open c =
    let empty : length c.args.buf.now ≡ 0 = grind (arith) in
    λ e. empty_changes c.blank.ensures c.args.buf.now empty

pub returns-in-Some : goal.returns-in-Some
returns-in-Some c =
    let long : 0 < length c.args.buf.now = grind (arith) in
    let row = c.in-Some.row in
    let first = first_open_row c.leads.ensures c.args.buf.now _ (Some row) long (search rules) c.in-Some.ensures in
    let lasts = every_lasts c.growth.ensures c.growth-2.ensures in
    let answer = answer_by_first lasts c.args.buf.now row first c.accepts.result c.then_some.result c.then_some.ensures c.accepts.ensures in
    record { decided = answer.0; «open» = answer.1 }

pub returns-in-None : goal.returns-in-None
returns-in-None c =
    let long : 0 < length c.args.buf.now = grind (arith) in
    let first = first_open_row c.leads.ensures c.args.buf.now _ None long (search rules) c.in-None.ensures in
    record {
      decided = answer_if_none (every_lasts c.growth.ensures c.growth-2.ensures) c.args.buf.now first;
      «open» = λ e. absurd (cc);
    }
