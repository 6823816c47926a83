use Rattle.infer_notation.proofs.Common.{◌≡◌, ◌||◌, ◌+◌, Some, drop, subst, sym, refl, ◌∙◌}
use Rattle.infer_notation.proofs.SeenLemmas.{AreLeft, program_next, programs_last}
use Rattle.infer_notation.proofs.relations.has_program.Goals.{then-any, else-any}
use Rattle.infer_notation.proofs.relations.has_program.Goals as goal

pub loop-token-preserved : goal.loop-token-preserved
loop-token-preserved c = λ x left.
    let l = c.loop-token in
    let same : c.if-any.any ≡ (l.any || c.in_ok-is_named.is_named) = elim c.if-any.branch [
      | then-any w ↦ w.any-is ∙ sym (rw w.if-any.true refl)
      | else-any w ↦ w.any-is ∙ sym (rw w.if-any.false refl)
    ] in
    l.invariant x (program_next c.args.tokens.now l.token-index _ c.loop-token-test.true c.args.buf.now l.any c.in_ok-is_named.is_named c.in_ok-is_named.ensures x
    (subst (λ any. AreLeft any (drop (l.token-index + 1) c.args.tokens.now) c.args.buf.now x) same left))

pub returns : goal.returns
returns c =
    let l = c.loop-token in
    l.invariant (Some l.any) (programs_last c.args.tokens.now l.token-index c.args.buf.now l.any c.loop-token-test.false)
