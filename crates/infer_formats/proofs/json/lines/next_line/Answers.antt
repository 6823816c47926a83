use Rattle.infer_formats.proofs.Common.{◌+◌, subst, arith, drop_all, take_rest, IsPast}
use Rattle.infer_formats.proofs.LineLemmas.{SameLine, next_at_end, next_found, none_next, same_more}
use Rattle.infer_formats.proofs.json.lines.next_line.Goals as goal

pub returns-in-10 : goal.returns-in-10
returns-in-10 c =
    let b = c.args.buf.now in
    let t = c.past_blanks.result.now in
    next_found b c.loop-at.at t (omega arith) c.in-10.is c.loop-at.invariant
    (subst (λ s. IsPast s t) (take_rest b (c.loop-at.at + 1)) c.past_blanks.ensures)

pub returns-in_default : goal.returns-in_default
returns-in_default c =
    none_next c.args.buf.now c.loop-at.at (omega arith) (λ b. grind (arith, c.in_default)) c.loop-at.invariant

pub loop-at-preserved : goal.loop-at-preserved
loop-at-preserved c =
    same_more c.args.buf.now c.loop-at.at (omega arith) (grind (arith, c.in-32))
    (λ e. grind (arith, c.in-32)) c.loop-at.invariant

pub returns : goal.returns
returns c =
    next_at_end c.args.buf.now
    (subst (SameLine c.args.buf.now) (drop_all c.loop-at.at c.args.buf.now (omega arith)) c.loop-at.invariant)
