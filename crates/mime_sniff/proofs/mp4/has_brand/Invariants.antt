use Rattle.std.proofs.Common.{ℕ, ◌*◌, ◌<◌, ◌≤◌, codes}
use Rattle.memchr.specs.Find.{OccursAt}
use Rattle.mime_sniff.proofs.mp4.has_brand.Given as goal

-- no compatible brand before this word begins so
abbrev pub invariant-loop-k : goal.invariant-loop-k
invariant-loop-k l = (j : ℕ) → 4 ≤ j → j < l.k → ¬ OccursAt l.buf (codes "mp4") (4 * j)
