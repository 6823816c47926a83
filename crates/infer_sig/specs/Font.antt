-- The fixed signatures of fonts, in the order of their rows. docs/sources.tsv lists the documents.
use Rattle.std.specs.Prelude.{List, [], ◌∷◌, ◌++◌, codes}
use Rattle.infer_sig.specs.Signature.{Alternative, at_least, text}

abbrev pub woff : List Alternative
woff = at_least 8 (text 0 (codes "wOFF" ++ 0x00 ∷ 0x01 ∷ 0x00 ∷ 0x00 ∷ []) ∷ []) ∷ []

abbrev pub woff2 : List Alternative
woff2 = at_least 8 (text 0 (codes "wOF2" ++ 0x00 ∷ 0x01 ∷ 0x00 ∷ 0x00 ∷ []) ∷ []) ∷ []

abbrev pub ttf : List Alternative
ttf = at_least 5 (text 0 (0x00 ∷ 0x01 ∷ 0x00 ∷ 0x00 ∷ 0x00 ∷ []) ∷ []) ∷ []

abbrev pub otf : List Alternative
otf = at_least 5 (text 0 (codes "OTTO" ++ 0x00 ∷ []) ∷ []) ∷ []
