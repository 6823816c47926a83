use Rattle.infer_sniff.proofs.Common.{ap, leb, subst, IsFirstOf, Accepts, table}
use Rattle.infer_sniff.proofs.FinalLemmas.{open-from_none, settled-from_first}
use Rattle.infer_sniff.proofs.verdict.is_settled.Goals as goal

pub returns-in-Some-None : goal.returns-in-Some-None
returns-in-Some-None c =
    let held = c.in-Some-None.ensures in (
      λ is. absurd (cc),
      λ settled. absurd (open-from_none c.args.buf.now c.if-buf-lt-LEAST.false c.in-Some-None.field-0-0 held.0 held.1
          (subst (IsFirstOf (Accepts c.args.buf.now) table) c.in-Some-None.is-1 c.requires) settled),
    )

pub returns-in-Some-Some : goal.returns-in-Some-Some
returns-in-Some-Some c =
    let held = c.in-Some-Some.ensures in
    settled-from_first c.args.buf.now c.if-buf-lt-LEAST.false c.in-Some-Some.beginning held.0 held.1 c.in-Some-Some.found _
    (ap (leb c.in-Some-Some.found) c.last_after.ensures)
    (subst (IsFirstOf (Accepts c.args.buf.now) table) c.in-Some-Some.is-1 c.requires)
