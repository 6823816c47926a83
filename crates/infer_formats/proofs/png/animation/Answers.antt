use Rattle.infer_formats.proofs.Common.{refl, arith}
use Rattle.infer_formats.specs.Png.{here}
use Rattle.infer_formats.proofs.PngLemmas.{never_after_data, next_decides, open_at, unreached_data}
use Rattle.infer_formats.proofs.png.animation.Goals as goal

pub returns-then-stands_at : goal.returns-then-stands_at
returns-then-stands_at c =
    let i = c.loop-chunk.invariant in
    let stands = c.stands_at.ensures.0 c.if-stands_at.true in (
      (λ is. i.0.1 (here c.loop-chunk.chunk stands), λ a. refl),
      λ a. refl,
    )

pub returns-then-stands_at-2 : goal.returns-then-stands_at-2
returns-then-stands_at-2 c =
    let i = c.loop-chunk.invariant in
    let stands = c.stands_at-in-loop-chunk.ensures.0 c.if-stands_at-2.true in (
      (λ is. absurd (cc), λ a. absurd (never_after_data c.args.buf.now c.loop-chunk.chunk stands (i.0.0 a))),
      λ a. absurd (unreached_data c.args.buf.now c.loop-chunk.chunk stands (i.1 a)),
    )

pub returns-then-length-buf : goal.returns-then-length-buf
returns-then-length-buf c =
    open_at _ _ (omega arith) (next_decides _ _ _ c.be32-length.ensures (omega arith)
    (λ o. let e = c.stands_at.ensures.1 o in absurd (cc))
    (λ o. let e = c.stands_at-in-loop-chunk.ensures.1 o in absurd (cc)) c.loop-chunk.invariant)

pub returns-else-buf-chunk : goal.returns-else-buf-chunk
returns-else-buf-chunk c = open_at _ _ (omega arith) c.loop-chunk.invariant

pub returns-after-loop-chunk : goal.returns-after-loop-chunk
returns-after-loop-chunk c = open_at _ _ (omega arith) c.loop-chunk.invariant

pub loop-chunk-preserved : goal.loop-chunk-preserved
loop-chunk-preserved c =
    next_decides _ _ _ c.be32-length.ensures (omega arith)
    (λ o. let e = c.stands_at.ensures.1 o in absurd (cc))
    (λ o. let e = c.stands_at-in-loop-chunk.ensures.1 o in absurd (cc)) c.loop-chunk.invariant
