-- Beginnings that several types share; that of a ZIP entry is `zip_header` of `infer_deep`.
use Rattle.std.specs.Prelude.{ℕ, List, [], ◌∷◌, ◌++◌, codes}

-- the identifier of a RIFF file's one chunk
abbrev pub riff_header : List ℕ
riff_header = codes "RIFF"

-- the header of a TIFF file whose numbers have their lowest byte first, and of one whose highest byte is first
abbrev pub little_tiff_header : List ℕ
little_tiff_header = codes "II*" ++ 0x00 ∷ []

abbrev pub big_tiff_header : List ℕ
big_tiff_header = codes "MM" ++ 0x00 ∷ 0x2A ∷ []
