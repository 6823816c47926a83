use Rattle.infer.proofs.Common.{◌≡◌, ◌<◌, length, Some, None, refl, arith, rules}
use Rattle.infer.proofs.DecidedLemmas.{answer_if_none, changes_by_first, decided_by_first, decided_itself, decided_with_first, empty_changes, empty_open, first_open_row}
use Rattle.infer.proofs.LawLemmas.{every_lasts}
use Rattle.infer.proofs.decided.is_decided.Goals as goal

pub returns-in_default : goal.returns-in_default
returns-in_default c =
    let empty : length c.args.buf.now ≡ 0 = grind (arith) in
    record {
      exact = (λ t. absurd (cc), λ decided. absurd (empty_open c.blank.ensures c.args.buf.now empty decided));
      «open» = λ f. empty_changes c.blank.ensures c.args.buf.now empty;
      can_be = λ long. absurd (omega (arith, long, empty));
    }

pub returns-in-Some-first_open : goal.returns-in-Some-first_open
returns-in-Some-first_open c =
    let long : 0 < length c.args.buf.now = grind (arith) in
    let row = c.in-Some-first_open.row in
    let first = first_open_row c.leads.ensures c.args.buf.now _ (Some row) long (search rules) c.in-Some-first_open.ensures in
    let lasts = every_lasts c.growth.ensures c.growth-2.ensures in
    record {
      exact = decided_by_first lasts c.args.buf.now row first c.accepts.result c.accepts.ensures;
      «open» = λ f. changes_by_first lasts c.args.buf.now row first (λ has. absurd (let t = c.accepts.ensures.1 has in cc));
      can_be = λ l. decided_with_first lasts c.args.buf.now row first;
    }

pub returns-in-None : goal.returns-in-None
returns-in-None c =
    let long : 0 < length c.args.buf.now = grind (arith) in
    let first = first_open_row c.leads.ensures c.args.buf.now _ None long (search rules) c.in-None.ensures in
    let decided = (answer_if_none (every_lasts c.growth.ensures c.growth-2.ensures) c.args.buf.now first).decided in
    record { exact = (λ t. decided, λ d. refl); «open» = λ f. absurd (cc); can_be = λ l. decided_itself c.args.buf.now decided }
