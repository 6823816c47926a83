-- The fixed signatures of books, in the order of their rows. docs/sources.tsv lists the documents.
use Rattle.std.specs.Prelude.{List, [], ◌∷◌, codes}
use Rattle.infer_deep.specs.Office.{zip_header}
use Rattle.infer_sig.specs.Signature.{Alternative, at_least, text}

abbrev pub epub : List Alternative
epub = at_least 58 (text 0 zip_header ∷ text 30 (codes "mimetypeapplication/epub+zip") ∷ []) ∷ []

abbrev pub mobi : List Alternative
mobi = at_least 68 (text 60 (codes "BOOKMOBI") ∷ []) ∷ []
