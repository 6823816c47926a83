use Rattle.infer_formats.proofs.Common.{ℕ, List, Option, None, [], ◌↔◌, ◌++◌, subst, IsPart, ReachesTag, StartsTag}
use Rattle.std.proofs.lemmas.List.{append-nil}
use Rattle.infer_formats.proofs.MarkupLemmas.{started_undeclared, past_none}
use Rattle.infer_formats.proofs.markup.prolog.prolog_end.Goals as goal

-- where the parts end the tag starts
starts : (b : List ℕ) (start place : ℕ) (d : Option ℕ)
    → ((more : List ℕ) (at to : ℕ) → ReachesTag (b ++ more) at to start None ↔ ReachesTag (b ++ more) at to place d)
    → ((q : ℕ) (e : Option ℕ) → ¬ IsPart b place d q e) → (at to : ℕ) → ReachesTag b at to start None ↔ StartsTag b at to place d
starts b start place d grown ends at to =
    let leads = subst (λ u. ReachesTag u at to start None ↔ ReachesTag u at to place d) (append-nil b) (grown [] at to) in
    let here = past_none b at to place d ends in
    (λ l. here.0 (leads.0 l), λ tag. leads.1 (here.1 tag))

pub returns-then-stop-clause-tag : goal.returns-then-stop-clause-tag
returns-then-stop-clause-tag c =
    let end = c.miscs_end-stop.ensures in
    starts c.args.buf.now c.args.start c.miscs_end-stop.result.place None (end.leads None)
    (started_undeclared c.args.buf.now c.miscs_end-stop.result.place (end.starts.0 c.if-stop.true))

pub returns-then-stop-clause-ends : goal.returns-then-stop-clause-ends
returns-then-stop-clause-ends c =
    started_undeclared c.args.buf.now c.miscs_end-stop.result.place (c.miscs_end-stop.ensures.starts.0 c.if-stop.true)

pub returns-clause-tag : goal.returns-clause-tag
returns-clause-tag c =
    let end = c.miscs_end-stop.ensures in
    let past = c.past_doctype.ensures.ends in
    starts c.args.buf.now c.args.start c.past_doctype.result.place c.past_doctype.result.doctype
    (λ more at to. (λ l. (past.leads more at to).0 ((end.leads None more at to).0 l), λ l. (end.leads None more at to).1 ((past.leads more at to).1 l)))
    past.ends
