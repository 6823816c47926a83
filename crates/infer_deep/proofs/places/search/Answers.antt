use Rattle.infer_deep.proofs.Common.{arith}
use Rattle.infer_deep.proofs.SearchLemmas.{none_fits, first_here, first_past}
use Rattle.infer_deep.proofs.places.search.Goals as goal

pub returns-then-stop-start-2 : goal.returns-then-stop-start-2
returns-then-stop-start-2 g c =
    none_fits _ _ _ _ _ _ _ (omega arith) c.min-stop.ensures c.byte_free-free.ensures.lacks (omega arith)

pub returns-then-same_at : goal.returns-then-same_at
returns-then-same_at g c =
    first_here _ _ _ _ _ _ _ (omega arith) c.min-stop.ensures c.byte_free-free.ensures.lacks (omega arith) (c.same_at.ensures.0 c.if-same_at.true)

pub returns : goal.returns
returns g c =
    first_past _ _ _ _ _ _ _ (omega arith) c.min-stop.ensures c.byte_free-free.ensures.lacks _
    (λ o. let is = c.if-same_at.ensures.1 o in absurd (cc)) c.search_pairs.ensures
