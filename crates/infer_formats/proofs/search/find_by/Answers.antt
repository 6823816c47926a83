use Rattle.infer_formats.proofs.Common.{arith, IsFirstWithin-skip}
use Rattle.infer_deep.proofs.SearchLemmas.{first_at_pair, none_past_pair, none_without_pair}
use Rattle.infer_formats.proofs.search.find_by.Goals as goal

pub returns-in_err-at : goal.returns-in_err-at
returns-in_err-at c =
    let i = c.loop-turn.invariant in
    none_without_pair _ _ _ _ _ _ (omega arith) i.1 i.0 i.2 _ c.requires.pair _ c.from_residual.ensures c.in_err-at.ensures

pub returns-then-stands_at : goal.returns-then-stands_at
returns-then-stands_at c =
    let i = c.loop-turn.invariant in
    let stands = c.stands_at.ensures.0 c.if-stands_at.true in
    let fits = stands.fits in
    first_at_pair _ _ _ _ _ _ (omega arith) i.1 i.0 i.2 _ c.requires.pair _ _ c.in_ok-at.ensures.0 (stands, fits)

pub loop-turn-preserved : goal.loop-turn-preserved
loop-turn-preserved c =
    let i = c.loop-turn.invariant in
    let inside = c.in_ok-at.ensures.0.high in (
      omega arith,
      omega arith,
      none_past_pair _ _ _ _ _ _ (omega arith) i.1 i.0 i.2 _ c.requires.pair _ _ c.in_ok-at.ensures.0
          (λ there. let e = c.if-stands_at.ensures.1 there.0 in absurd (cc)),
    )

pub returns : goal.returns
returns c =
    let i = c.loop-turn.invariant in
    IsFirstWithin-skip _ _ _ _ _ i.0 i.2 _ c.find_bytes.ensures
