use Rattle.infer_more.proofs.Common.{◌<◌, [], None, length, ap, arith, subst, sym, ◌∙◌, false≢true, min, OccursAt, IsLeast, named_row, Named, name_at}
use Rattle.infer_more.proofs.LeastLemmas.{none_more, rows_first, rows_past}
use Rattle.infer_more.proofs.index.search.least_folder_at.Goals as goal

pub returns-then-stands_at : goal.returns-then-stands_at
returns-then-stands_at c =
    let lt : c.loop-named.named-index < length c.args.folders.now = omega arith in
    subst (IsLeast _ c.args.before) (sym (c.min.ensures ∙ ap (min c.args.before) c.from.ensures))
    (rows_first named_row (λ (e : Named). OccursAt c.args.buf.now (name_at e.name) c.args.place) c.args.folders.now c.loop-named.named-index _ c.args.before lt c.requires (λ j less. c.loop-named.invariant j _ less)
    (subst (λ t. OccursAt c.args.buf.now t c.args.place) c.name_at.ensures (c.stands_at.ensures.0 c.if-stands_at.true)))

pub loop-named-preserved : goal.loop-named-preserved
loop-named-preserved c =
    let lt : c.loop-named.named-index < length c.args.folders.now = omega arith in
    none_more named_row (λ (e : Named). OccursAt c.args.buf.now (name_at e.name) c.args.place) c.args.folders.now c.loop-named.named-index _ lt c.loop-named.invariant
    (λ q. false≢true (sym c.if-stands_at.false ∙ c.stands_at.ensures.1 (subst (λ t. OccursAt c.args.buf.now t c.args.place) (sym c.name_at.ensures) q)))

pub returns : goal.returns
returns c = rows_past named_row (λ (e : Named). OccursAt c.args.buf.now (name_at e.name) c.args.place) c.args.folders.now (record { row = 0; name = record { start = 0; count = 0 }; text = None }) c.args.before (λ j less. c.loop-named.invariant j _ (omega arith))
