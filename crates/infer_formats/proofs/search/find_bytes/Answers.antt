use Rattle.infer_formats.proofs.Common.{length, arith, subst, sym, OccursAt, IsFirstWithin}
use Rattle.infer_deep.proofs.SearchLemmas.{first_in_rest, none_in_rest}
use Rattle.infer_formats.proofs.search.find_bytes.Goals as goal

pub returns-in_err-at : goal.returns-in_err-at
returns-in_err-at c =
    subst (IsFirstWithin OccursAt c.args.buf.now c.args.text.now c.args.start (length c.args.buf.now)) (sym c.from_residual.ensures)
    (none_in_rest _ _ _ _ _ (omega arith) c.requires c.in_err-at.ensures)

pub returns : goal.returns
returns c = first_in_rest _ _ _ _ _ (omega arith) c.requires _ _ c.in_ok-at.ensures.0 c.in_ok-at.ensures.1
