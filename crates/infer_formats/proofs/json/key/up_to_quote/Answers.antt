use Rattle.infer_formats.proofs.Common.{◌≡◌, ◌+◌, ◌∷◌, ◌++◌, List, ℕ, MatchOption, eqb-true, sym, subst, take, take_rest}
use Rattle.infer_formats.specs.FirstKey.{EndsInQuote}
use Rattle.infer_formats.proofs.KeyLemmas.{no_ending, none_before, quote_at}
use Rattle.infer_formats.proofs.json.key.up_to_quote.Goals as goal

pub returns-in_err-end : goal.returns-in_err-end
returns-in_err-end c =
    let b = c.args.buf.now in
    subst (λ r. MatchOption r ((t left : List ℕ) → ¬ EndsInQuote t left b) (λ key. EndsInQuote key.text.now key.rest.now b)) (sym c.from_residual.ensures)
    (no_ending b c.in_err-end.ensures)

pub returns : goal.returns
returns c =
    let b = c.args.buf.now in
    let end = c.in_ok-end.end in
    let (between, is) = c.in_ok-end.ensures in
    (none_before b end between.before, subst (λ u. b ≡ take end b ++ 0x22 ∷ u) (sym (take_rest b (end + 1))) (quote_at b end between.high (eqb-true _ 0x22 is)))
