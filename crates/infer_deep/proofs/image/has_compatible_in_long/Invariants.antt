-- whether each brand is one of the first k
use Rattle.infer_deep.proofs.Common.{◌↔◌, IsTrue}
use Rattle.infer_deep.proofs.BrandLemmas.{StandsBelow}
use Rattle.infer_deep.proofs.image.has_compatible_in_long.Given as goal

abbrev pub invariant-loop-k : goal.invariant-loop-k
invariant-loop-k l = (IsTrue l.has_one ↔ StandsBelow l.buf l.one l.k) × (IsTrue l.has_other ↔ StandsBelow l.buf l.other l.k)
