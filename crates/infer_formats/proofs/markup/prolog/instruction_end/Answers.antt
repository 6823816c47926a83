use Rattle.infer_formats.proofs.Common.{codes, subst, sym, FindsPlace, IsEnclosed}
use Rattle.infer_formats.proofs.markup.prolog.instruction_end.Goals as goal

pub returns-in_err-end : goal.returns-in_err-end
returns-in_err-end c =
    subst (FindsPlace (IsEnclosed c.args.buf.now (codes "<?") (codes "?>") c.args.place)) (sym c.from_residual.ensures)
    (λ q (o, (e, first, is)). c.in_err-end.ensures e first.here)
