-- Types that are recognised by a text somewhere near the beginning.
use Rattle.std.specs.Prelude.{ℕ, ◌≤◌, List, [], ◌∷◌, length, codes}
use Rattle.memchr.specs.Find.{OccursAt}
use Rattle.infer_deep.specs.Places.{IsWithin}

-- the text stands in b at some place, and ends by `end`
abbrev pub StandsBy : List ℕ → ℕ → List ℕ → Type 0
StandsBy text end b = (p : ℕ) × IsWithin OccursAt b text 0 end p

-- "%PDF" stands in the first 1024 bytes
abbrev pub IsPdf : List ℕ → Type 0
IsPdf b = StandsBy (codes "%PDF") 1024 b

-- b has at least 257 bytes and begins as EBML does, and the document type stands in its first 256 bytes
abbrev pub IsMatroska : List ℕ → List ℕ → Type 0
IsMatroska doc_type b =
    (257 ≤ length b) × OccursAt b (0x1A ∷ 0x45 ∷ 0xDF ∷ 0xA3 ∷ []) 0 × StandsBy doc_type 256 b

-- the document type "matroska", after the two bytes of its EBML name and one of its size
abbrev pub mkv_type : List ℕ
mkv_type = 0x42 ∷ 0x82 ∷ 0x88 ∷ codes "matroska"

-- the document type "webm", in the same form
abbrev pub webm_type : List ℕ
webm_type = 0x42 ∷ 0x82 ∷ 0x84 ∷ codes "webm"

-- its document type is "matroska"
abbrev pub IsMkv : List ℕ → Type 0
IsMkv b = IsMatroska mkv_type b

-- its document type is "webm"
abbrev pub IsWebm : List ℕ → Type 0
IsWebm b = IsMatroska webm_type b
