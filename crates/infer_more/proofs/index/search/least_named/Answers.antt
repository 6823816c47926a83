use Rattle.infer_more.proofs.Common.{◌≡◌, ◌<◌, [], None, length, ap, arith, subst, sym, ◌∙◌, false≢true, min, IsLeast, named_row, Named, name_at}
use Rattle.infer_more.proofs.LeastLemmas.{none_more, rows_first, rows_past}
use Rattle.infer_more.proofs.index.search.least_named.Goals as goal

pub returns-then-is_named : goal.returns-then-is_named
returns-then-is_named c =
    let lt : c.loop-named.named-index < length c.args.names.now = omega arith in
    subst (IsLeast _ c.args.before) (sym (c.min.ensures ∙ ap (min c.args.before) c.from.ensures))
    (rows_first named_row (λ (e : Named). (name_at e.name) ≡ c.args.name.now) c.args.names.now c.loop-named.named-index _ c.args.before lt c.requires (λ j less. c.loop-named.invariant j _ less)
    (c.is_named.ensures.0 c.if-is_named.true))

pub loop-named-preserved : goal.loop-named-preserved
loop-named-preserved c =
    let lt : c.loop-named.named-index < length c.args.names.now = omega arith in
    none_more named_row (λ (e : Named). (name_at e.name) ≡ c.args.name.now) c.args.names.now c.loop-named.named-index _ lt c.loop-named.invariant
    (λ q. false≢true (sym c.if-is_named.false ∙ c.is_named.ensures.1 q))

pub returns : goal.returns
returns c = rows_past named_row (λ (e : Named). (name_at e.name) ≡ c.args.name.now) c.args.names.now (record { row = 0; name = record { start = 0; count = 0 }; text = None }) c.args.before (λ j less. c.loop-named.invariant j _ (omega arith))
