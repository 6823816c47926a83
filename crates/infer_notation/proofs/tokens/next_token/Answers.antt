use Rattle.std.proofs.Common.{◌<◌, ap, drop, length, option_map, sym, ◌∷◌, ◌∙◌, arith, rules}
use Rattle.std.proofs.lemmas.List.{length-drop}
use Rattle.infer_notation.specs.Grammar.{tokens_of, unread}
use Rattle.infer_notation.specs.Tokens.{token_listed}
use Rattle.infer_notation.proofs.FlawLemmas as flaws
use Rattle.infer_notation.proofs.RelationLemmas.{bad_token, next_token, no_token}
use Rattle.infer_notation.proofs.tokens.next_token.Goals as goal

pub returns-then-is_empty-clause-found : goal.returns-then-is_empty-clause-found
returns-then-is_empty-clause-found c = no_token c.args.text.now c.skip_blanks-front.result.now c.skip_blanks-front.ensures.value (search rules)

pub returns-in-Ok-clause-found : goal.returns-in-Ok-clause-found
returns-in-Ok-clause-found c =
    let front = c.skip_blanks-front.result.now in
    let some : 0 < length front = search rules in
    let after = c.rest_at.ensures ∙ ap (drop c.in-Ok.count) c.after_first.ensures in (
      next_token c.args.text.now front (token_listed c.in-Ok.token) c.in-Ok.count c.skip_blanks-front.ensures.value some (c.skip_blanks-front.ensures.ends some) c.in-Ok.ensures.value
          ∙ ap (λ r. option_map (λ ts. token_listed c.in-Ok.token ∷ ts) (tokens_of r)) (sym after),
      rw after (let fits = c.skip_blanks-front.ensures.fits in omega (arith, length-drop 1 front, length-drop c.in-Ok.count (drop 1 front))),
    )

pub returns-in-Err-clause-none : goal.returns-in-Err-clause-none
returns-in-Err-clause-none c =
    let front = c.skip_blanks-front.result.now in
    let some : 0 < length front = search rules in
    bad_token c.args.text.now front c.skip_blanks-front.ensures.value some (c.skip_blanks-front.ensures.ends some) c.in-Err.ensures.value

pub returns-in-Ok-clause-read : goal.returns-in-Ok-clause-read
returns-in-Ok-clause-read c =
    let front = c.skip_blanks-front.result.now in
    let some : 0 < length front = search rules in
    let after = c.rest_at.ensures ∙ ap (drop c.in-Ok.count) c.after_first.ensures in
    sym (flaws.past_blanks c.args.text.now) ∙ ap unread (sym c.skip_blanks-front.ensures.value)
    ∙ flaws.past_token front (token_listed c.in-Ok.token) c.in-Ok.count some (c.skip_blanks-front.ensures.ends some) c.in-Ok.ensures.value ∙ ap unread (sym after)

pub returns-in-Err-clause-flaw : goal.returns-in-Err-clause-flaw
returns-in-Err-clause-flaw c =
    let front = c.skip_blanks-front.result.now in
    let some : 0 < length front = search rules in
    record {
      inside = c.skip_blanks-front.ensures.fits;
      first = λ token. ap length (sym (flaws.no_token front some (c.skip_blanks-front.ensures.ends some) c.in-Err.ensures.value)
          ∙ ap unread c.skip_blanks-front.ensures.value ∙ flaws.past_blanks c.args.text.now);
    }
