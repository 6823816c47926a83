use Rattle.std.proofs.Common.{◌≡◌, ◌<◌, ◌+◌, ◌∙◌, ap, arith, drop, get_or, length, length-drop}
use Rattle.std.proofs.lemmas.List.{get_or-drop}
use Rattle.mime_types.specs.Segment.{quoted_len}
use Rattle.mime_types.proofs.SegmentLemmas.{closes}
use Rattle.mime_types.proofs.segment.quoted_len.Goals as goal

pub returns-else-text-at-ne34-clause-value : goal.returns-else-text-at-ne34-clause-value
returns-else-text-at-ne34-clause-value c =
    let t = c.args.text.now in
    let at = c.loop-at.at in
    let same : get_or (drop at t) 0 0 ≡ get_or t at 0 = let e : at + 0 ≡ at = omega arith in get_or-drop at t 0 0 ∙ ap (λ i. get_or t i 0) e in
    let quote : get_or (drop at t) 0 0 ≡ 0x22 = same ∙ omega arith in
    let some : 0 < length (drop at t) = omega (arith, length-drop at t) in
    let none : quoted_len (drop at t) ≡ 0 = closes (drop at t) some quote in
    omega (arith, none, c.loop-at.invariant.1)
