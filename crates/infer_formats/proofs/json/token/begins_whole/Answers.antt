use Rattle.infer_formats.proofs.Common.{subst, refl, arith, drop_all, BeginsWhole, left}
use Rattle.infer_formats.proofs.TokenLemmas.{ends_at, none_ends, stops_at, whole_more}
use Rattle.infer_formats.proofs.json.token.begins_whole.Goals as goal

pub returns-in-Ended : goal.returns-in-Ended
returns-in-Ended c =
    let ends =
    ends_at c.loop-i.token c.args.buf.now c.loop-i.i c.after.result (omega arith) c.after.ensures c.in-Ended.is in
    (λ is. c.loop-i.invariant.1 ends, λ d. refl)

pub returns-in-Wrong : goal.returns-in-Wrong
returns-in-Wrong c =
    let stops = stops_at c.loop-i.token c.args.buf.now c.loop-i.i (omega arith) c.in-Wrong.ensures in
    (λ is. absurd (cc), λ d. absurd (stops (c.loop-i.invariant.0 d)))

pub loop-i-preserved : goal.loop-i-preserved
loop-i-preserved c =
    let more =
    whole_more c.loop-i.token c.in-Inside.next c.args.buf.now c.loop-i.i (omega arith) c.in-Inside.ensures in
    (λ d. more.0 (c.loop-i.invariant.0 d), λ d. c.loop-i.invariant.1 (more.1 d))

pub returns : goal.returns
returns c =
    let t = c.loop-i.token in
    let none = drop_all c.loop-i.i c.args.buf.now (omega arith) in
    (λ is. absurd (cc), λ d. absurd (none_ends t (subst (BeginsWhole (left t)) none (c.loop-i.invariant.0 d))))
