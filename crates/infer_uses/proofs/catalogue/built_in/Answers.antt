use Rattle.infer.proofs.Common.{◌≡◌, Some, false, nat_lt, ap, subst, sym, ◌∙◌, arith, if◌then◌else◌, nat_tests, IsFirstOf, Accepts, table}
use Rattle.infer.specs.declared.table.rows.TheConstants.{ROW_COUNT}
use Rattle.infer_more.specs.Wider.{IsWider, parent_at}
use Rattle.infer_uses.proofs.catalogue.built_in.Goals as goal

pub returns : goal.returns
returns c = λ b w.
    let row = c.in_ok-row.row in
    let past : nat_lt row ROW_COUNT ≡ false = let le = c.if-row-lt-ROW_COUNT.false in grind (arith, nat_tests) in
    subst (IsFirstOf (Accepts b) table) (ap (λ t. if t then Some row else parent_at row) past ∙ sym c.parent.ensures)
    (c.below.ensures b (Some row) (subst (IsWider b) c.in_ok-row.was w))
