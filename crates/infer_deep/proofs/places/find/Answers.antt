use Rattle.infer_deep.proofs.Common.{arith}
use Rattle.infer_deep.proofs.SearchLemmas.{none_fits, first_later}
use Rattle.infer_deep.proofs.places.find.Goals as goal

pub returns-then-stop-start-2 : goal.returns-then-stop-start-2
returns-then-stop-start-2 g c =
    none_fits _ _ _ _ _ _ _ (omega arith) c.min-stop.ensures c.places_free-free.ensures.lacks (omega arith)

pub returns : goal.returns
returns g c = first_later _ _ _ _ _ _ _ (omega arith) c.min-stop.ensures c.places_free-free.ensures.lacks _ c.search_on.ensures
