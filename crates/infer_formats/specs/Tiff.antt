-- TIFF files, by the tags of their first directory.
use Rattle.std.specs.Prelude.{◌≡◌, ℕ, ◌+◌, ◌*◌, ◌<◌, ◌≤◌, ◌⊎◌, Bool, true, false, List, [], ◌∷◌, length}
use Rattle.memchr.specs.Find.{OccursAt}
use Rattle.infer_deep.specs.Open.{AgreesAt}
use Rattle.infer_formats.specs.Numbers.{bytes16, number16, number32}

-- b begins as a TIFF file whose numbers are in this order
abbrev pub BeginsTiff : Bool → List ℕ → Type 0
BeginsTiff false b = OccursAt b (0x49 ∷ 0x49 ∷ 0x2A ∷ 0x00 ∷ []) 0
BeginsTiff true b = OccursAt b (0x4D ∷ 0x4D ∷ 0x00 ∷ 0x2A ∷ []) 0

-- entry i of the directory at `start` lies in b, with those before it
abbrev pub IsEntry : Bool → List ℕ → ℕ → ℕ → Type 0
IsEntry big b start i = (i < number16 big b start) × (start + 2 + 12 * i + 12 ≤ length b)

-- and has the tag
abbrev pub IsTagEntry : Bool → ℕ → List ℕ → ℕ → ℕ → Type 0
IsTagEntry big tag b start i =
    (i < number16 big b start) × (start + 2 + 12 * i + 12 ≤ length b) × (number16 big b (start + 2 + 12 * i) ≡ tag)

-- the first directory, whose place the four bytes at 4 say, has an entry with the tag
abbrev pub HasTag : ℕ → List ℕ → Type 0
HasTag tag b = (big : Bool) × BeginsTiff big b × ((i : ℕ) × IsTagEntry big tag b (number32 big b 4) i)

-- the tag of the text that says who made the camera
abbrev pub make_tag : ℕ
make_tag = 0x010F

-- entry i of the directory at `start` has that tag, and the text stands at the place that its four bytes at 8 say
abbrev pub IsMakeEntry : Bool → List ℕ → List ℕ → ℕ → ℕ → Type 0
IsMakeEntry big make b start i = IsTagEntry big make_tag b start i × OccursAt b make (number32 big b (start + 2 + 12 * i + 8))

-- the first directory has an entry with the tag, and one that says the make
abbrev pub HasTagAndMake : ℕ → List ℕ → List ℕ → Type 0
HasTagAndMake tag make b =
    (big : Bool) × BeginsTiff big b × ((i : ℕ) × IsTagEntry big tag b (number32 big b 4) i)
    × ((j : ℕ) × IsMakeEntry big make b (number32 big b 4) j)

-- b agrees with the beginning of such a file
abbrev pub MayBeginTiff : Bool → List ℕ → Type 0
MayBeginTiff false b = AgreesAt b (0x49 ∷ 0x49 ∷ 0x2A ∷ 0x00 ∷ []) 0
MayBeginTiff true b = AgreesAt b (0x4D ∷ 0x4D ∷ 0x00 ∷ 0x2A ∷ []) 0

-- an entry may have the tag: b ends before it says where the directory is or how many entries it has, or one agrees
abbrev pub MayHaveEntry : Bool → ℕ → List ℕ → Type 0
MayHaveEntry big tag b =
    (length b < 8) ⊎ (length b < number32 big b 4 + 2)
    ⊎ ((i : ℕ) × (i < number16 big b (number32 big b 4)) × AgreesAt b (bytes16 big tag) (number32 big b 4 + 2 + 12 * i))

-- as far as b goes, it is such a file in one of the orders, and its first directory may have an entry with the tag
abbrev pub MayHaveTag : ℕ → List ℕ → Type 0
MayHaveTag tag b =
    (MayBeginTiff false b × MayHaveEntry false tag b) ⊎ (MayBeginTiff true b × MayHaveEntry true tag b)
