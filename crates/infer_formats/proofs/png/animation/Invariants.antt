-- the chunks so far leave it open
use Rattle.infer_formats.proofs.Common.{◌↔◌, ◌-◌, length, MayBecome, IsAnimated, IsAnimatedFrom}
use Rattle.infer_formats.proofs.png.animation.Given as goal

abbrev pub invariant-loop-chunk : goal.invariant-loop-chunk
invariant-loop-chunk l =
    (IsAnimated l.buf ↔ IsAnimatedFrom l.buf l.chunk)
    × (MayBecome IsAnimated l.buf → MayBecome (λ c. IsAnimatedFrom c l.chunk) l.buf)

abbrev pub decreases-loop-chunk : goal.decreases-loop-chunk
decreases-loop-chunk l = length l.buf - l.chunk
