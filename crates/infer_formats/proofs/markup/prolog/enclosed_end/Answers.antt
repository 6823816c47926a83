use Rattle.infer_formats.proofs.Common.{◌≡◌, ◌+◌, length, arith, subst, sym, OccursAt, FindsPlace, IsWithin, IsEnclosed}
use Rattle.infer_formats.proofs.markup.prolog.enclosed_end.Goals as goal

pub returns-in_err-end : goal.returns-in_err-end
returns-in_err-end g c =
    let b = c.args.buf.now in
    let opening = c.args.opening.now in
    let closing = c.args.closing.now in
    let after : c.args.place + length opening ≡ c.args.place + g.row.N = omega arith in
    subst (FindsPlace (IsEnclosed b opening closing c.args.place)) (sym c.from_residual.ensures)
    (λ q (o, (e, first, is)). c.in_err-end.ensures e (subst (λ k. IsWithin OccursAt b closing k (length b) e) after first.here))
