use Rattle.infer_notation.proofs.Common.{◌≡◌, Some, subst, piece, token_listed}
use Rattle.infer_notation.proofs.LeadLemmas.{quoted_has, set_has, word_piece}
use Rattle.infer_notation.proofs.leads.piece_lead.Goals as goal

pub returns-in-Quoted : goal.returns-in-Quoted
returns-in-Quoted c = λ b least d e is seen.
    let p = c.args.place in
    c.text_lead.ensures b (quoted_has least p c.in-Quoted.text.now d e b (subst (λ t. piece least p (token_listed t) ≡ Some (d, e)) c.in-Quoted.is is) seen)

pub returns-in-Word : goal.returns-in-Word
returns-in-Word c = λ b least d e is seen.
    let p = c.args.place in
    c.word_lead.ensures b least d e (word_piece least p c.in-Word.word.now d e b (subst (λ t. piece least p (token_listed t) ≡ Some (d, e)) c.in-Word.is is) seen) seen

pub returns-in-Set : goal.returns-in-Set
returns-in-Set c = λ b least d e is seen.
    let p = c.args.place in
    let has = set_has least p c.in-Set.digits.now d e b (subst (λ t. piece least p (token_listed t) ≡ Some (d, e)) c.in-Set.is is) seen in
    c.set_lead.ensures b has.0 has.1 has.2
