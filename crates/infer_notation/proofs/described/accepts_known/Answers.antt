use Rattle.infer_notation.proofs.Common.{◌≡◌, Some, ap, cond, map, option_map, subst, sym, ◌∙◌, alternatives_of, relations_of, begins_relation, described, signature_of}
use Rattle.infer_notation.proofs.SeenLemmas.{known_fixed, known_related, known_unseen}
use Rattle.infer_notation.proofs.described.accepts_known.Goals as goal

pub returns-in-Ok : goal.returns-in-Ok
unfolding signature_of
returns-in-Ok c = λ alternatives e.
    let t = c.args.text.now in
    let is = sym (ap begins_relation c.skip_blanks.ensures.value) ∙ sym c.begins_relation.ensures ∙ c.if-begins_relation.true in
    known_related (relations_of t) c.args.buf.now c.in-Ok.is_accepted c.in-Ok.ensures.seen alternatives (subst (λ b. cond b (relations_of t) (option_map (map described) (alternatives_of t)) ≡ Some alternatives) is e)

pub returns-in-Err : goal.returns-in-Err
unfolding signature_of
returns-in-Err c = λ alternatives e.
    let t = c.args.text.now in
    let is = sym (ap begins_relation c.skip_blanks.ensures.value) ∙ sym c.begins_relation.ensures ∙ c.if-begins_relation.true in
    absurd (known_unseen (relations_of t) c.args.buf.now c.in-Err.ensures.seen alternatives (subst (λ b. cond b (relations_of t) (option_map (map described) (alternatives_of t)) ≡ Some alternatives) is e))

pub returns : goal.returns
unfolding signature_of
returns c = λ alternatives e.
    let t = c.args.text.now in
    let is = sym (ap begins_relation c.skip_blanks.ensures.value) ∙ sym c.begins_relation.ensures ∙ c.if-begins_relation.false in
    known_fixed (alternatives_of t) c.args.buf.now c.fits_fixed.result c.fits_fixed.ensures alternatives (subst (λ b. cond b (relations_of t) (option_map (map described) (alternatives_of t)) ≡ Some alternatives) is e)
