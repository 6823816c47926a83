use Rattle.infer_more.proofs.Common.{◌≡◌, [], List, None, ℕ, IsLeast, IsTried, candidates, subst, sym}
use Rattle.infer_more.proofs.LeastLemmas.{tried_none}
use Rattle.infer_more.specs.declared.index.Entry.{Entry}
use Rattle.infer_more.proofs.index.search.least_of_span.Goals as goal

pub returns-then-not-is_one_tried : goal.returns-then-not-is_one_tried
returns-then-not-is_one_tried c =
    let b = c.args.buf.now in
    let none = subst (λ (l : List Entry). candidates b l ≡ []) c.of-entries.ensures (c.is_one_tried.ensures c.if-not-is_one_tried.true) in
    subst (λ (rows : List ℕ). IsLeast (IsTried None b rows) c.args.before c.args.before) (sym none) (tried_none None b c.args.before)
