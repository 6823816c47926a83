use Rattle.infer_deep.proofs.Common.{arith}
use Rattle.infer_deep.proofs.SearchLemmas.{IsFirstWithin-skip, first_at_pair, none_past_pair, none_without_pair}
use Rattle.infer_deep.proofs.places.search_pairs.Goals as goal

pub returns-in_err-at : goal.returns-in_err-at
returns-in_err-at c =
    let i = c.loop-turn.invariant in
    none_without_pair _ _ _ _ _ _ c.min-stop.ensures i.1 (omega arith) i.2 _ c.with_pair-pair.ensures.value _ c.from_residual-in_err-at.ensures c.in_err-at.ensures

pub returns-then-stands_within : goal.returns-then-stands_within
returns-then-stands_within c =
    let i = c.loop-turn.invariant in
    let pair = first_at_pair _ _ _ _ _ _ c.min-stop.ensures i.1 (omega arith) i.2 _ c.with_pair-pair.ensures.value _ _ c.in_ok-at.ensures.0 in
    pair (c.stands_within.ensures.0 c.if-stands_within.true)

pub loop-turn-preserved : goal.loop-turn-preserved
loop-turn-preserved c =
    let i = c.loop-turn.invariant in
    let inside = c.in_ok-at.ensures.0.high in
    let past = none_past_pair _ _ _ _ _ _ c.min-stop.ensures i.1 (omega arith) i.2 _ c.with_pair-pair.ensures.value _ _ c.in_ok-at.ensures.0 in
    (omega arith, omega arith, past (λ there. let e = c.if-stands_within.ensures.1 there in absurd (cc)))

pub returns : goal.returns
returns c = IsFirstWithin-skip _ _ _ _ _ c.loop-turn.invariant.0 c.loop-turn.invariant.2 _ c.search_bytes.ensures
