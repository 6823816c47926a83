use Rattle.infer_notation.proofs.Common.{◌≡◌, ◌∷◌, Some, subst, sym, bytes_after}
use Rattle.infer_notation.proofs.LeadLemmas.{byte_found}
use Rattle.infer_notation.proofs.leads.digit_read.Goals as goal

pub returns-in-Some-added : goal.returns-in-Some-added
returns-in-Some-added c = λ xs ys e.
    byte_found c.args.found c.in-Some.other c.args.digit c.in-Some-byte_with.byte c.in-Some-added.more xs ys (sym c.in-Some-byte_with.ensures) c.in-Some-added.ensures
    (subst (λ f. bytes_after f (c.args.digit ∷ ys) ≡ Some xs) c.in-Some.is e)

pub returns-in_default : goal.returns-in_default
returns-in_default c = λ xs ys e. (xs, c.half_of.ensures xs ys (subst (λ f. bytes_after f (c.args.digit ∷ ys) ≡ Some xs) c.in_default.is e), λ x h. h)
