use Rattle.infer_formats.proofs.Common.{List, ℕ, Option, MatchOption, sym, subst}
use Rattle.infer_formats.specs.FirstKey.{IsFirstKey}
use Rattle.infer_formats.specs.declared.json.key.Key.{Key}
use Rattle.infer_formats.proofs.KeyLemmas.{key_is, key_only, no_colon, no_end, no_quoted}
use Rattle.infer_formats.proofs.json.key.first_key.Goals as goal

abbrev Says : List ℕ → Option Key → Type 0
Says b r = MatchOption r ((k left : List ℕ) → ¬ IsFirstKey k left b) (λ key. IsFirstKey key.text.now key.rest.now b)

pub returns-in_err-quoted-clause-found : goal.returns-in_err-quoted-clause-found
returns-in_err-quoted-clause-found c =
    let b = c.args.buf.now in
    subst (Says b) (sym c.from_residual-in_err-quoted.ensures) (no_quoted b c.past_mark.result.now c.in_ok-inside.inside.now c.past_mark.ensures c.in_ok-inside.ensures c.in_err-quoted.ensures)

pub returns-in_err-key-clause-found : goal.returns-in_err-key-clause-found
returns-in_err-key-clause-found c =
    let b = c.args.buf.now in
    subst (Says b) (sym c.from_residual-in_err-key.ensures) (no_end b c.past_mark.result.now c.in_ok-inside.inside.now c.past_mark.ensures c.in_ok-inside.ensures c.in_ok-quoted.quoted.now c.in_ok-quoted.ensures c.in_err-key.ensures)

pub returns-in_err-rest-clause-found : goal.returns-in_err-rest-clause-found
returns-in_err-rest-clause-found c =
    let b = c.args.buf.now in
    let key = c.in_ok-key.key in
    subst (Says b) (sym c.from_residual-in_err-rest.ensures) (no_colon b c.past_mark.result.now c.in_ok-inside.inside.now c.past_mark.ensures c.in_ok-inside.ensures c.in_ok-quoted.quoted.now c.in_ok-quoted.ensures key.text.now key.rest.now c.in_ok-key.ensures c.in_err-rest.ensures)

pub returns-clause-found : goal.returns-clause-found
returns-clause-found c =
    let key = c.in_ok-key.key in
    key_is c.args.buf.now c.past_mark.result.now c.in_ok-inside.inside.now c.past_mark.ensures c.in_ok-inside.ensures c.in_ok-quoted.quoted.now c.in_ok-quoted.ensures key.text.now key.rest.now c.in_ok-key.ensures c.in_ok-rest.rest.now c.in_ok-rest.ensures

pub returns-clause-only : goal.returns-clause-only
returns-clause-only c =
    let key = c.in_ok-key.key in
    key_only c.args.buf.now c.past_mark.result.now c.in_ok-inside.inside.now c.past_mark.ensures c.in_ok-inside.ensures c.in_ok-quoted.quoted.now c.in_ok-quoted.ensures key.text.now key.rest.now c.in_ok-key.ensures c.in_ok-rest.rest.now c.in_ok-rest.ensures
