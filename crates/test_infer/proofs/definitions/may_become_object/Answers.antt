use Rattle.std.proofs.Common.{inl, inr}
use Rattle.infer.specs.declared.table.rows.TheConstants.{ROW_COUNT}
use Rattle.infer_more.specs.Decided.{AsksForRelation}
use Rattle.infer_more.specs.Table.{further, packages}
use Rattle.test_infer.proofs.definitions.may_become_object.Goals as goal

-- the row of object files asks for fixed bytes alone
asks_for_none : ¬ AsksForRelation ROW_COUNT
unfolding further packages
asks_for_none asks = absurd (let same = asks.1 in cc)

pub returns : goal.returns
returns c = (
  λ t. elim (c.may_become.ensures.exact t) [ inl may ↦ may | inr asks ↦ absurd (asks_for_none asks) ],
  c.may_become.ensures.may,
)
