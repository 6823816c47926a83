use Rattle.infer_notation.proofs.Common.{◌≡◌, Some, ap, cond, map, option_map, subst, sym, ◌∙◌, alternatives_of, relations_of, begins_relation, described, signature_of}
use Rattle.infer_notation.proofs.LeadLemmas.{lead_fixed}
use Rattle.infer_notation.proofs.leads.lead_of.Goals as goal

pub returns : goal.returns
unfolding signature_of
returns c = λ alternatives e.
    let t = c.args.text.now in
    let is = sym (ap begins_relation c.skip_blanks.ensures.value) ∙ sym c.begins_relation.ensures ∙ c.if-begins_relation.false in
    lead_fixed (alternatives_of t) c.fixed_lead.result c.fixed_lead.ensures alternatives (subst (λ b. cond b (relations_of t) (option_map (map described) (alternatives_of t)) ≡ Some alternatives) is e)
