use Rattle.infer_notation.proofs.Common.{◌∙◌, sym}
use Rattle.infer_notation.specs.Texts.{joined_listed}
use Rattle.infer_notation.proofs.TextLemmas.{pieces_full, pieces_next}
use Rattle.infer_notation.proofs.texts.join.Goals as goal

pub returns-in_err-joined : goal.returns-in_err-joined
returns-in_err-joined c =
    let l = c.loop-token in
    rw c.from_residual.ensures (sym (l.invariant.1 ∙ pieces_full c.args.tokens.now l.token-index _ c.loop-token-test.true (joined_listed l.joined) c.in_err-joined.ensures))

pub loop-token-preserved : goal.loop-token-preserved
loop-token-preserved c =
    let l = c.loop-token in
    let step = pieces_next c.args.tokens.now l.token-index _ c.loop-token-test.true (joined_listed l.joined) (joined_listed c.in_ok-joined.joined) c.in_ok-joined.ensures in
    (step.0, l.invariant.1 ∙ step.1)
