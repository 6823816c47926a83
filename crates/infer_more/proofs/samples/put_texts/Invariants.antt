-- the texts so far are written, and the others have room
use Rattle.infer_more.proofs.Common.{◌≡◌, IsTrue, drop, length, map, list_all, take, with_parts, is_inside}
use Rattle.infer_formats.specs.Relation.{placed_listed}
use Rattle.infer_more.proofs.samples.put_texts.Given as goal

abbrev pub invariant-loop-placed : goal.invariant-loop-placed
invariant-loop-placed l =
    (with_parts (map placed_listed (drop l.placed-index (take l.model.count l.model.texts))) l.out ≡ with_parts (map placed_listed (take l.model.count l.model.texts)) l.fn.out)
    × IsTrue (list_all (is_inside (length l.out)) (map placed_listed (drop l.placed-index (take l.model.count l.model.texts))))
