use Rattle.infer_notation.proofs.Common.{ap, cond, map, option_map, subst, sym, ◌∙◌, alternatives_of, IsSeen, relations_of, begins_relation, described, signature_of, found_by}
use Rattle.infer_notation.proofs.SeenLemmas.{seen_fixed}
use Rattle.infer_notation.proofs.described.accepts.Goals as goal

pub returns-then-begins_relation-clause-seen : goal.returns-then-begins_relation-clause-seen
unfolding signature_of
returns-then-begins_relation-clause-seen c =
    let is = sym (ap begins_relation c.skip_blanks.ensures.value) ∙ sym c.begins_relation.ensures ∙ c.if-begins_relation.true in
    let t = c.args.text.now in
    subst (λ b. IsSeen (cond b (relations_of t) (option_map (map described) (alternatives_of t))) c.args.buf.now (found_by c.is_related.result)) (sym is) c.is_related.ensures.seen

pub returns-clause-seen : goal.returns-clause-seen
unfolding signature_of
returns-clause-seen c =
    let is = sym (ap begins_relation c.skip_blanks.ensures.value) ∙ sym c.begins_relation.ensures ∙ c.if-begins_relation.false in
    let t = c.args.text.now in
    subst (λ b. IsSeen (cond b (relations_of t) (option_map (map described) (alternatives_of t))) c.args.buf.now (found_by c.accepts_fixed.result)) (sym is)
    (seen_fixed (alternatives_of t) c.args.buf.now (found_by c.accepts_fixed.result) c.accepts_fixed.ensures.found)
