use Rattle.std.proofs.Common.{◌+◌, drop, ap, ◌∙◌, sym}
use Rattle.infer_notation.specs.Fixed.{given}
use Rattle.infer_notation.specs.Tokens.{token_listed}
use Rattle.std.proofs.lemmas.List.{drop-drop}
use Rattle.infer_notation.proofs.FlawLemmas as flaws
use Rattle.infer_notation.specs.Grammar.{unread}
use Rattle.infer_notation.proofs.SignatureLemmas.{given_next}
use Rattle.infer_notation.proofs.signature.next.Goals as goal

pub returns-clause-found : goal.returns-clause-found
returns-clause-found c =
    let buf = c.args.buf.now in
    let xs = c.args.text.now in
    let n = c.in_ok-token.count in
    given_next buf c.args.state c.in_ok-cursor.cursor xs (token_listed c.in_ok-token.token) n c.in_ok-cursor.effect c.requires.some c.requires.no_blank c.in_ok-token.ensures.value c.in_ok-cursor.ensures.found
    ∙ ap (λ s. given buf s 0 (drop (1 + n) xs)) (sym c.taken.ensures)

pub returns-clause-read : goal.returns-clause-read
returns-clause-read c =
    let xs = c.args.text.now in
    let n = c.in_ok-token.count in
    flaws.past_token xs (token_listed c.in_ok-token.token) n c.requires.some c.requires.no_blank c.in_ok-token.ensures.value
    ∙ ap unread (drop-drop n 1 xs)
