use Rattle.infer_formats.proofs.Common.{[], Fits, relation_listed, subst, sym}
use Rattle.infer_formats.specs.Markup.{DecidesByRoot}
use Rattle.infer_formats.proofs.relation.Relation.of_root.Goals as goal

pub returns-in-Root-clause-says : goal.returns-in-Root-clause-says
returns-in-Root-clause-says c =
    subst (λ r. DecidesByRoot c.args.root.now (Fits (relation_listed r)) c.has_name.result) (sym c.in-Root.is)
    (λ b m n says ms ns. (says m n ms ns c.in-Root.name.now []).0, c.has_name.ensures)

pub returns-in-RootWith-clause-says : goal.returns-in-RootWith-clause-says
returns-in-RootWith-clause-says c =
    subst (λ r. DecidesByRoot c.args.root.now (Fits (relation_listed r)) c.has_name_and_text.result) (sym c.in-RootWith.is)
    (λ b m n says ms ns. (says m n ms ns c.in-RootWith.name.now c.in-RootWith.text.now).1, c.has_name_and_text.ensures)
