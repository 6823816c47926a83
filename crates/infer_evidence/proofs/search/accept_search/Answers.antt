use Rattle.infer_evidence.proofs.Common.{arith, refl}
use Rattle.infer_evidence.proofs.SearchLemmas.{stands_same}
use Rattle.infer_evidence.proofs.search.accept_search.Goals as goal

pub returns-in-Some-clause-proves : goal.returns-in-Some-clause-proves
returns-in-Some-clause-proves c = λ b agrees.
    let asked = c.ask_held.ensures.same c.args.buf.now b agrees in
    let long = c.ask_least.ensures.long c.args.buf.now b asked.0 in (
      long.0,
      stands_same c.args.search.now.text.now c.args.buf.now b c.min-end.result c.args.search.now.end c.in-Some.place (grind (arith, c.min-end.ensures)) c.in-Some.ensures.some long.1
          (c.new.ensures.reads c.args.buf.now b asked.1),
    )

pub returns-in_default-clause-proves : goal.returns-in_default-clause-proves
returns-in_default-clause-proves c =
    let stands = c.requires.1.stands in
    let high = c.requires.1.high in
    let fits = stands.fits in
    absurd (c.in_default.ensures.none refl c.requires.0 (grind (arith, high, fits, c.min-end.ensures)) stands)
