use Rattle.infer_deep.proofs.Common.{arith, subst, sym, OccursAt, IsFirstWithin}
use Rattle.infer_deep.proofs.SearchLemmas.{first_in_rest, none_in_rest}
use Rattle.infer_deep.proofs.places.search_bytes.Goals as goal

pub returns-in_err-at : goal.returns-in_err-at
returns-in_err-at c =
    subst (IsFirstWithin OccursAt c.args.buf.now c.args.text.now c.args.start c.args.end) (sym c.from_residual.ensures)
    (none_in_rest _ _ _ _ _ c.min-stop.ensures (omega arith) c.in_err-at.ensures)

pub returns : goal.returns
returns c = first_in_rest _ _ _ _ _ c.min-stop.ensures (omega arith) _ _ c.in_ok-at.ensures.0 c.in_ok-at.ensures.1
