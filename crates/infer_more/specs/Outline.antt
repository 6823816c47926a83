-- What every buffer has that fits an alternative, as bytes at fixed places, so that the index can ask for one of them.
use Rattle.std.specs.Prelude.{List, [], ◌∷◌, ◌++◌}
use Rattle.infer_formats.specs.Relation as relation
use Rattle.infer_sig.specs.Signature as fixed
use Rattle.infer_notation.specs.Alternative.{Alternative, binary_bytes, bytes, related}

-- for each alternative, bytes of which such a buffer has one list
abbrev pub lines : Alternative → List fixed.Alternative
lines (bytes a) = a ∷ []
lines (binary_bytes a) = a ∷ []
lines (related r) = relation.lines r

-- those of all alternatives of a signature
abbrev pub outline : List Alternative → List fixed.Alternative
outline [] = []
outline (a ∷ others) = lines a ++ outline others
