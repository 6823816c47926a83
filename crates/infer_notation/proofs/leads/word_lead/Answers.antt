use Rattle.infer_notation.proofs.Common.{◌∷◌, [], sym, any_of, byte}
use Rattle.infer_notation.proofs.LeadLemmas.{bytes_lead, led_by, range_leads}
use Rattle.infer_notation.proofs.leads.word_lead.Goals as goal

pub returns-in-Some : goal.returns-in-Some
returns-in-Some c = λ b least d e is seen. c.range_lead.ensures b (range_leads least c.args.place c.in-Some.low c.in-Some.high c.args.word.now d e b is (sym c.in-Some.ensures) seen)

pub returns-in-Some-first_byte : goal.returns-in-Some-first_byte
returns-in-Some-first_byte c = λ b least d e is seen.
    let x = c.in-Some-first_byte.first in
    led_by c.lead_at.result (byte c.args.place (any_of (x ∷ x ∷ x ∷ x ∷ []))) b c.lead_at.ensures (bytes_lead least c.args.place x c.args.word.now d e b is (sym c.in-None.ensures) c.in-Some-first_byte.ensures seen)
