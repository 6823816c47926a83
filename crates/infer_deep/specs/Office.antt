-- Office Open XML documents, by the folder of one of their ZIP entries.
use Rattle.std.specs.Prelude.{◌≡◌, ℕ, ◌+◌, ◌≤◌, ◌⊎◌, List, [], ◌∷◌, ◌++◌, codes}
use Rattle.memchr.specs.Find.{OccursAt}
use Rattle.infer_deep.specs.Numbers.{le32}
use Rattle.infer_deep.specs.Places.{IsFirstPlace}
use Rattle.infer_deep.specs.Open.{AgreesAt}

-- with which the local header of a ZIP entry begins
abbrev pub zip_header : List ℕ
zip_header = codes "PK" ++ 0x03 ∷ 0x04 ∷ []

-- p is the least place from s on at which a header is, and its four bytes end by s + 6000
abbrev pub IsHeaderFrom : (List ℕ → List ℕ → ℕ → Type 0) → List ℕ → ℕ → ℕ → Type 0
IsHeaderFrom At b s p = IsFirstPlace At b zip_header s (s + 6000) p

-- a folder of Office stands at p
abbrev pub HasFolder : List ℕ → ℕ → Type 0
HasFolder b p = OccursAt b (codes "word/") p ⊎ OccursAt b (codes "ppt/") p ⊎ OccursAt b (codes "xl/") p

-- a name that Office gives to a first entry is at 30, where the first header has its name
abbrev pub HasOfficeName : (List ℕ → List ℕ → ℕ → Type 0) → List ℕ → Type 0
HasOfficeName At b =
    At b (codes "[Content_Types].xml") 30 ⊎ At b (codes "_rels/.rels") 30 ⊎ At b (codes "docProps") 30

-- b begins as a ZIP archive whose first entry has such a name
abbrev pub BeginsOffice : List ℕ → Type 0
BeginsOffice b = OccursAt b zip_header 0 × HasOfficeName OccursAt b

-- the third header is at `third`: the second header is the least from 49 past the size on that the first states
-- at 18, and the third the least from 30 past the second on
pub record IsThirdHeader (At : List ℕ → List ℕ → ℕ → Type 0) (b : List ℕ) (third : ℕ) : Type 0 where
  pub second : ℕ
  pub start_fits : le32 b 18 + 49 ≤ 0xFFFFFFFF
  pub second_found : IsHeaderFrom At b (le32 b 18 + 49) second
  pub third_found : IsHeaderFrom At b (second + 30) third

-- after the third header decides the third itself if a folder of Office stands 30 past it, and otherwise the
-- fourth, the least from 56 past the third on
abbrev pub DecidesAfter : List ℕ → ℕ → ℕ → Type 0
DecidesAfter b third header =
    (HasFolder b (third + 30) × (header ≡ third))
    ⊎ ((¬ HasFolder b (third + 30)) × IsHeaderFrom OccursAt b (third + 56) header)

-- the header whose folder decides stands at `header`
pub record IsDecidingHeader (b : List ℕ) (header : ℕ) : Type 0 where
  pub third : ℕ
  pub third_found : IsThirdHeader OccursAt b third
  pub decides : DecidesAfter b third header

-- b begins as a ZIP archive, and p is the place of the folder that decides: 30 if a folder stands there, and
-- otherwise, after a name of Office, 30 past the header whose folder decides
abbrev pub IsDecidingPlace : List ℕ → ℕ → Type 0
IsDecidingPlace b p =
    OccursAt b zip_header 0
    × ((HasFolder b 30 × (p ≡ 30))
    ⊎ ((¬ HasFolder b 30) × HasOfficeName OccursAt b × ((header : ℕ) × IsDecidingHeader b header × (p ≡ header + 30))))

-- the folder stands at the deciding place
abbrev pub IsOffice : List ℕ → List ℕ → Type 0
IsOffice folder b = (p : ℕ) × IsDecidingPlace b p × OccursAt b folder p

-- a document of Word
abbrev pub IsDocx : List ℕ → Type 0
IsDocx b = IsOffice (codes "word/") b

-- a presentation of PowerPoint
abbrev pub IsPptx : List ℕ → Type 0
IsPptx b = IsOffice (codes "ppt/") b

-- a workbook of Excel
abbrev pub IsXlsx : List ℕ → Type 0
IsXlsx b = IsOffice (codes "xl/") b

-- one of the folders of Office
abbrev pub IsFolder : List ℕ → Type 0
IsFolder folder = (folder ≡ codes "word/") ⊎ (folder ≡ codes "ppt/") ⊎ (folder ≡ codes "xl/")

-- the folder may decide after a third header that may still be to come: b agrees with it there, or no folder of Office stands there and b agrees
-- with it at the fourth header, found in the same way
abbrev pub MayDecideAfter : List ℕ → List ℕ → ℕ → Type 0
MayDecideAfter folder b third =
    AgreesAt b folder (third + 30)
    ⊎ ((¬ HasFolder b (third + 30)) × ((fourth : ℕ) × IsHeaderFrom AgreesAt b (third + 56) fourth × AgreesAt b folder (fourth + 30)))

-- it may decide after some third header, which b agrees with as far as it goes
abbrev pub MayDecide : List ℕ → List ℕ → Type 0
MayDecide folder b = (third : ℕ) × IsThirdHeader AgreesAt b third × MayDecideAfter folder b third
