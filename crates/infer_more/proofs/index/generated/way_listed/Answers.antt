-- Made by `tools/tables` from the further rows: the other ways stand in one list.
use Rattle.infer_more.proofs.Common.{◌∷◌, [], arith, subst, sym}
use Rattle.infer_more.specs.Index.{IsWayBelow}
use Rattle.infer_more.proofs.BelowLemmas.{not_among}
use Rattle.infer_more.proofs.FoundLemmas.{way_of_list}
use Rattle.infer_more.proofs.index.generated.way_listed.Goals as goal

pub returns-in_default : goal.returns-in_default
returns-in_default c =
    subst (IsWayBelow c.args.parent) (sym c.below_at.ensures)
    (way_of_list (21 ∷ 67 ∷ 93 ∷ 95 ∷ 96 ∷ 97 ∷ []) _ c.below_others.ensures c.args.parent (not_among (21 ∷ 67 ∷ 93 ∷ 95 ∷ 96 ∷ 97 ∷ []) c.args.parent (λ e. omega arith, (λ e. omega arith, (λ e. omega arith, (λ e. omega arith, (λ e. omega arith, (λ e. omega arith, tt))))))))
