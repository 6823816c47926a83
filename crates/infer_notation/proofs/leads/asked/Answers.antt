use Rattle.infer_notation.proofs.Common.{◌≡◌, Some, subst, step_at, token_listed, step}
use Rattle.infer_notation.proofs.LeadLemmas.{more_piece}
use Rattle.infer_notation.proofs.leads.asked.Goals as goal

pub returns-in-Bytes : goal.returns-in-Bytes
unfolding step
returns-in-Bytes c = λ b d e is seen.
    let k = c.args.cursor in
    c.piece_lead.ensures b k.least d e (subst (λ w. step_at w k.least k.place (token_listed c.args.token) ≡ Some (d, e)) c.in-Bytes.is is) seen

pub returns-in-More : goal.returns-in-More
unfolding step
returns-in-More c = λ b d e is seen.
    let k = c.args.cursor in
    let t = token_listed c.args.token in
    c.piece_lead-in-More.ensures b k.least d e (more_piece k.least k.place t d e b (subst (λ w. step_at w k.least k.place t ≡ Some (d, e)) c.in-More.is is) seen) seen
