use Rattle.infer_more.proofs.Common.{◌+◌, ◌∙◌, ◌∷◌, ap, arith, lines_of, sym, take}
use Rattle.std.proofs.lemmas.List.{length-drop, take_rest}
use Rattle.infer_more.proofs.LineLemmas.{line_ended, line_last}
use Rattle.infer_more.proofs.types.lines.next_line.Goals as goal

pub returns-in-Some : goal.returns-in-Some
returns-in-Some c =
    let text = c.args.text.now in
    let n = c.in-Some.end in
    let found = c.in-Some.ensures.0 in
    let rest = take_rest text (n + 1) in (
      line_ended text n found.high c.in-Some.ensures.1 (λ k lt. found.before k (omega arith) lt) ∙ ap (λ r. take n text ∷ lines_of r) (sym rest),
      rw rest (let high = found.high in omega (arith, length-drop (n + 1) text)),
    )

pub returns-in-None : goal.returns-in-None
returns-in-None c = line_last c.args.text.now (λ k lt. c.in-None.ensures k (omega arith) lt)
