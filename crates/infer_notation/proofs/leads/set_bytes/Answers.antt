use Rattle.infer_notation.proofs.Common.{◌≡◌, ◌+◌, ◌∷◌, ap, drop, get_or, sym, ◌∙◌, drop_more, bytes_after}
use Rattle.infer_notation.proofs.LeadLemmas.{all_found}
use Rattle.infer_notation.proofs.leads.set_bytes.Goals as goal

pub loop-digit-preserved : goal.loop-digit-preserved
loop-digit-preserved c = λ xs e.
    let l = c.loop-digit in
    let text = c.args.text.now in
    let left = l.invariant xs e in
    let front : drop l.digit-index text ≡ get_or text l.digit-index 0 ∷ drop (l.digit-index + 1) text = drop_more text l.digit-index 0 c.loop-digit-test.true in
    let next = c.in-Some.ensures left.0 (drop (l.digit-index + 1) text) (sym (ap (bytes_after l.first) front) ∙ left.1) in
    (next.0, next.1, λ x h. next.2 x (left.2 x h))

pub returns : goal.returns
returns c = all_found c.loop-digit.found c.loop-digit.first c.args.text.now c.loop-digit.digit-index c.loop-digit-test.false c.loop-digit.invariant
