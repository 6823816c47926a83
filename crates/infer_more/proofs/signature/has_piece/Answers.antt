use Rattle.infer_more.proofs.Common.{◌≤◌, ◌+◌, ◌↔◌, ℕ, List, IsTrue, OccursAt, length, ap, sym, subst, ◌∙◌, leb-true, has_part, stands_from_occurs, part_listed, is_inside, Piece}
use Rattle.infer_more.specs.Listed.{asked}
use Rattle.infer_more.proofs.signature.has_piece.Goals as goal

pub returns-in-At : goal.returns-in-At
returns-in-At c =
    let b = c.args.buf.now in
    let inside = subst (λ (p : Piece). IsTrue (is_inside (length b) (part_listed p))) c.in-At.is c.requires in
    let within : c.in-At.place + length (asked c.in-At.text) ≤ length b = leb-true _ _ inside in
    let read = c.asked.ensures in
    let same = subst (λ (t : List ℕ). IsTrue c.same_text.result ↔ OccursAt b t c.in-At.place) read c.same_text.ensures in
    stands_from_occurs c.in-At.place (asked c.in-At.text) b c.same_text.result within same
    ∙ sym (ap (λ (p : Piece). has_part b (part_listed p)) c.in-At.is)
