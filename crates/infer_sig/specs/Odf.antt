-- The fixed signatures of OpenDocument files, in the order of their rows. docs/sources.tsv lists the documents.
use Rattle.std.specs.Prelude.{List, [], ◌∷◌, codes}
use Rattle.infer_deep.specs.Office.{zip_header}
use Rattle.infer_sig.specs.Signature.{Alternative, at_least, text}

abbrev pub odt : List Alternative
odt = at_least 77
    (text 0 zip_header ∷ text 30 (codes "mimetype")
    ∷ text 50 (codes "vnd.oasis.opendocument.text") ∷ []) ∷ []

abbrev pub ods : List Alternative
ods = at_least 84
    (text 0 zip_header ∷ text 30 (codes "mimetype")
    ∷ text 50 (codes "vnd.oasis.opendocument.spreadsheet") ∷ []) ∷ []

abbrev pub odp : List Alternative
odp = at_least 85
    (text 0 zip_header ∷ text 30 (codes "mimetype")
    ∷ text 50 (codes "vnd.oasis.opendocument.presentation") ∷ []) ∷ []
