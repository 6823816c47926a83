use Rattle.infer_more.proofs.Common.{◌≡◌, true, subst, sym, IsFoundBelow, IsLeast, is_true_below, Below, FURTHER_COUNT}
use Rattle.infer_more.proofs.FoundLemmas.{all_applications, are_class_ids}
use Rattle.infer_more.proofs.IndexLemmas.{both_left}
use Rattle.infer_more.proofs.LeastLemmas.{least_both}
use Rattle.infer_more.proofs.index.search.least_found.Goals as goal

pub least_class-requires-clause-long : goal.least_class-requires-clause-long
least_class-requires-clause-long c = are_class_ids c.args.row c.in-ClassIds.entries c.in-ClassIds.ids (subst (λ (way : Below). is_true_below c.args.row way ≡ true) c.in-ClassIds.is c.requires)

pub least_class-requires-clause-ascend : goal.least_class-requires-clause-ascend
least_class-requires-clause-ascend c = both_left _ _ (subst (λ (way : Below). is_true_below c.args.row way ≡ true) c.in-ClassIds.is c.requires)

pub least_program-requires : goal.least_program-requires
least_program-requires c = both_left _ _ (subst (λ (way : Below). is_true_below c.args.row way ≡ true) c.in-Programs.is c.requires)

pub least_root-requires : goal.least_root-requires
least_root-requires c = both_left _ _ (subst (λ (way : Below). is_true_below c.args.row way ≡ true) c.in-Roots.is c.requires)

pub least_folder-requires-clause-ascend : goal.least_folder-requires-clause-ascend
least_folder-requires-clause-ascend c = both_left _ _ (subst (λ (way : Below). is_true_below c.args.row way ≡ true) c.in-Packages.is c.requires)

pub least_folder-requires-clause-application : goal.least_folder-requires-clause-application
least_folder-requires-clause-application c = all_applications c.args.row c.in-Packages.entries c.in-Packages.folders (subst (λ (way : Below). is_true_below c.args.row way ≡ true) c.in-Packages.is c.requires)

pub returns-in-ClassIds : goal.returns-in-ClassIds
returns-in-ClassIds c =
    subst (λ (way : Below). IsLeast (IsFoundBelow way c.args.row c.args.buf.now) FURTHER_COUNT c.least_class.result) (sym c.in-ClassIds.is)
    (least_both _ _ FURTHER_COUNT _ _ c.least_each-tried.ensures c.least_class.ensures)

pub returns-in-Programs : goal.returns-in-Programs
returns-in-Programs c =
    subst (λ (way : Below). IsLeast (IsFoundBelow way c.args.row c.args.buf.now) FURTHER_COUNT c.least_program.result) (sym c.in-Programs.is)
    (least_both _ _ FURTHER_COUNT _ _ c.least_each-tried-in-Programs.ensures c.least_program.ensures)

pub returns-in-Roots : goal.returns-in-Roots
returns-in-Roots c = subst (λ (way : Below). IsLeast (IsFoundBelow way c.args.row c.args.buf.now) FURTHER_COUNT c.least_root.result) (sym c.in-Roots.is) c.least_root.ensures

pub returns-in-Packages : goal.returns-in-Packages
returns-in-Packages c =
    subst (λ (way : Below). IsLeast (IsFoundBelow way c.args.row c.args.buf.now) FURTHER_COUNT c.least_folder.result) (sym c.in-Packages.is)
    (least_both _ _ FURTHER_COUNT _ _ c.least_each-tried-in-Packages.ensures c.least_folder.ensures)

pub returns-in-Tagged : goal.returns-in-Tagged
returns-in-Tagged c =
    subst (λ (way : Below). IsLeast (IsFoundBelow way c.args.row c.args.buf.now) FURTHER_COUNT c.least_tagged.result) (sym c.in-Tagged.is)
    (least_both _ _ FURTHER_COUNT _ _ c.least_each-tried-in-Tagged.ensures c.least_tagged.ensures)
