-- The fixed signature of a text. docs/sources.tsv lists the documents.
use Rattle.std.specs.Prelude.{List, [], ◌∷◌, codes}
use Rattle.infer_sig.specs.Signature.{Alternative, at_least, text}

abbrev pub shellscript : List Alternative
shellscript = at_least 3 (text 0 (codes "#!") ∷ []) ∷ []
