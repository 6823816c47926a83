use Rattle.infer_evidence.proofs.Common.{arith}
use Rattle.infer_evidence.proofs.search.refuse_search.Goals as goal

pub returns-then-end-search-clause-proves : goal.returns-then-end-search-clause-proves
returns-then-end-search-clause-proves c = λ b agrees.
    let exact = c.ask_exact.ensures.exact c.args.buf.now b agrees in
    let told = c.refuse_everywhere.ensures.proves b exact.0 in
    (told.0, λ stands. told.1 stands.0 (let fits = stands.1.stands.fits in let high = stands.1.high in grind (arith, fits, high, exact.1, c.min-end.ensures)) stands.1.stands)

pub returns-else-end-search-clause-proves : goal.returns-else-end-search-clause-proves
returns-else-end-search-clause-proves c = λ b agrees.
    let told = c.refuse_everywhere.ensures.proves b agrees in
    (told.0, λ stands. told.1 stands.0 (let high = stands.1.high in grind (arith, high, c.min-end.ensures, c.if-end-search.false)) stands.1.stands)
