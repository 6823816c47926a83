use Rattle.infer_notation.proofs.Common.{sym, ◌∙◌, arith, rules, token_listed, group_listed}
use Rattle.infer_notation.proofs.FlawLemmas.{flaw_after}
use Rattle.infer_notation.proofs.RelationLemmas.{found_last, found_or, group_long, group_next, listed_len}
use Rattle.infer_notation.proofs.relations.read_group.Goals as goal

pub returns-then-is_word-clause-found : goal.returns-then-is_word-clause-found
returns-then-is_word-clause-found c =
    let l = c.loop-token in
    let next = rw c.in-Some.is at c.in_ok-token.ensures.found in
    found_or l.group c.args.text.now l.rest.now l.invariant.room l.invariant.few l.invariant.front l.invariant.whole c.in-Some.after (token_listed c.in-Some.token) next.0
    (sym c.is_word.ensures ∙ c.if-is_word.true) c.ended.result c.ended.ensures.found

pub returns-then-group-eq24-clause-none : goal.returns-then-group-eq24-clause-none
returns-then-group-eq24-clause-none c =
    let l = c.loop-token in
    let next = rw c.in-Some.is at c.in_ok-token.ensures.found in
    group_long (group_listed l.group) c.args.text.now l.rest.now c.in-Some.after.now (token_listed c.in-Some.token) l.invariant.front l.invariant.whole next.0
    (sym c.is_word.ensures ∙ c.if-is_word.false) (listed_len l.group l.invariant.room l.invariant.few ∙ c.if-group-eq24.true)

pub loop-token-preserved : goal.loop-token-preserved
loop-token-preserved c =
    let l = c.loop-token in
    let next = rw c.in-Some.is at c.in_ok-token.ensures.found in
    let few = l.invariant.few in
    let other = c.if-group-eq24.false in
    let more = group_next l.group c.args.text.now l.rest.now c.in-Some.after.now c.in-Some.token l.invariant.room (grind arith) l.invariant.front l.invariant.whole next.0
    (sym c.is_word.ensures ∙ c.if-is_word.false) (let less = next.1 in let fits = l.invariant.fits in omega arith) in
    record {
      room = more.room;
      few = more.few;
      front = more.front;
      whole = more.whole;
      fits = more.fits;
      read = l.invariant.read ∙ rw c.in-Some.is at c.in_ok-token.ensures.read;
    }

pub returns-clause-found : goal.returns-clause-found
returns-clause-found c =
    let l = c.loop-token in
    let none = rw c.in_default.is at c.in_ok-token.ensures.found in
    found_last l.group c.args.text.now l.rest.now l.invariant.room l.invariant.few l.invariant.front l.invariant.whole none c.ended-2.result c.ended-2.ensures.found

pub returns-in_err-token-clause-flaw : goal.returns-in_err-token-clause-flaw
returns-in_err-token-clause-flaw c =
    let l = c.loop-token in
    let flaw = flaw_after c.args.text.now l.rest.now _ l.invariant.fits l.invariant.read c.in_err-token.ensures.flaw in search rules

pub returns-then-is_word-clause-read : goal.returns-then-is_word-clause-read
returns-then-is_word-clause-read c =
    let read = c.loop-token.invariant.read ∙ rw c.in-Some.is at c.in_ok-token.ensures.read in search rules
