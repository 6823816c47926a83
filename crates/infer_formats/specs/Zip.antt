-- ZIP archives, by the names of their entries. A local header has 30 bytes, and then the entry's name.
use Rattle.std.specs.Prelude.{◌≡◌, ℕ, ◌+◌, ◌-◌, ◌<◌, ◌≤◌, ◌⊎◌, ◌↔◌, List, [], ◌∷◌, Option, Bool, IsTrue, MatchOption, length, codes}
use Rattle.memchr.specs.Find.{OccursAt}
use Rattle.infer_deep.specs.Numbers.{le16}
use Rattle.infer_deep.specs.Office.{zip_header}
use Rattle.infer_deep.specs.Open.{AgreesAt}
use Rattle.infer_formats.specs.Numbers.{low_bytes}

-- b begins with an entry, whose name, of the length that the two bytes at 26 say, lies in b
pub record HasFirstName (b : List ℕ) : Type 0 where
  pub long : 30 ≤ length b
  pub header : OccursAt b zip_header 0
  pub whole : 30 + le16 b 26 ≤ length b

-- the name is exactly the text
abbrev pub FirstEntryIs : List ℕ → List ℕ → Type 0
FirstEntryIs name b = HasFirstName b × (le16 b 26 ≡ length name) × OccursAt b name 30

-- the text is the end of the name, or all of it
abbrev pub FirstEntryEndsIn : List ℕ → List ℕ → Type 0
FirstEntryEndsIn text b = HasFirstName b × (length text ≤ le16 b 26) × OccursAt b text (30 + le16 b 26 - length text)

-- the text stands after the name, and the two bytes at 28 say that the extra field is as long or longer
abbrev pub FirstEntryHasExtra : List ℕ → List ℕ → Type 0
FirstEntryHasExtra text b = HasFirstName b × (length text ≤ le16 b 28) × OccursAt b text (30 + le16 b 26)

-- the name begins with the text
abbrev pub FirstEntryBegins : List ℕ → List ℕ → Type 0
FirstEntryBegins text b = HasFirstName b × (length text ≤ le16 b 26) × OccursAt b text 30

-- an entry stands at p whose name begins as that of a part which each package has
abbrev pub IsPartEntry : List ℕ → ℕ → Type 0
IsPartEntry b p =
    OccursAt b zip_header p × (OccursAt b (codes "[Content_Types].xml") (p + 30) ⊎ OccursAt b (codes "_rels/") (p + 30))

-- the folder of an application stands at p
abbrev pub IsFolder : List ℕ → ℕ → Type 0
IsFolder b p =
    OccursAt b (codes "word/") p ⊎ OccursAt b (codes "xl/") p ⊎ OccursAt b (codes "ppt/") p ⊎ OccursAt b (codes "visio/") p ⊎ OccursAt b (codes "3D/") p

-- an entry stands at q whose name begins with one
abbrev pub IsFolderEntry : List ℕ → ℕ → Type 0
IsFolderEntry b q = OccursAt b zip_header q × IsFolder b (q + 30)

-- q is the least such place
abbrev pub IsFirstFolder : List ℕ → ℕ → Type 0
IsFirstFolder b q = IsFolderEntry b q × ((k : ℕ) → k < q → ¬ IsFolderEntry b k)

-- b begins with an entry that a package may have first
abbrev pub MayBeginPackage : List ℕ → List ℕ → Type 0
MayBeginPackage folder b =
    OccursAt b zip_header 0
    × (OccursAt b (codes "[Content_Types].xml") 30 ⊎ OccursAt b (codes "_rels/") 30 ⊎ OccursAt b (codes "docProps/") 30
    ⊎ OccursAt b folder 30)

-- b begins so, has a part of each package somewhere, and its first folder of an application is this one
abbrev pub IsPackageWith : List ℕ → List ℕ → Type 0
IsPackageWith folder b =
    MayBeginPackage folder b × ((p : ℕ) × IsPartEntry b p) × ((q : ℕ) × IsFirstFolder b q × OccursAt b folder (q + 30))

-- an entry stands at q whose name, of the length that the two bytes 26 places on say, is exactly the text
abbrev pub IsEntryNamed : List ℕ → List ℕ → ℕ → Type 0
IsEntryNamed name b q = OccursAt b zip_header q × (le16 b (q + 26) ≡ length name) × OccursAt b name (q + 30)

-- b begins with an entry, and some entry has the name
abbrev pub HasEntry : List ℕ → List ℕ → Type 0
HasEntry name b = OccursAt b zip_header 0 × ((q : ℕ) × IsEntryNamed name b q)

-- the manifest of a Java archive, and the folder of it
abbrev pub manifest : List ℕ
manifest = codes "META-INF/MANIFEST.MF"

abbrev pub manifest_folder : List ℕ
manifest_folder = codes "META-INF/"

-- the first entry is in that folder: it is the manifest; or the folder itself, and some entry is the manifest; or it has an
-- extra field that begins with FE CA
abbrev pub IsJavaArchive : List ℕ → Type 0
IsJavaArchive b =
    FirstEntryBegins manifest_folder b
    × (FirstEntryIs manifest b ⊎ (FirstEntryIs manifest_folder b × HasEntry manifest b) ⊎ FirstEntryHasExtra (0xFE ∷ 0xCA ∷ []) b)

-- r is whether there is such a part
abbrev pub FindsPart : List ℕ → Bool → Type 0
FindsPart b r = IsTrue r ↔ ((p : ℕ) × IsPartEntry b p)

-- r is the least place of a folder, and none only if there is none
abbrev pub FindsFolder : List ℕ → Option ℕ → Type 0
FindsFolder b r = MatchOption r ((q : ℕ) → ¬ IsFolderEntry b q) (λ q. IsFirstFolder b q)

-- the text is one of these
abbrev pub IsOneOf : List ℕ → List (List ℕ) → Type 0
IsOneOf t [] = ⊥
IsOneOf t (s ∷ others) = (t ≡ s) ⊎ IsOneOf t others

-- the folders of applications
abbrev pub applications : List (List ℕ)
applications = codes "word/" ∷ codes "xl/" ∷ codes "ppt/" ∷ codes "visio/" ∷ codes "3D/" ∷ []

-- b begins with an entry that a package may have first, whichever its application is
abbrev pub MayBeginAny : List ℕ → Type 0
MayBeginAny b =
    OccursAt b zip_header 0
    × (OccursAt b (codes "[Content_Types].xml") 30 ⊎ OccursAt b (codes "_rels/") 30 ⊎ OccursAt b (codes "docProps/") 30
    ⊎ IsFolderEntry b 0)

-- the folder of an application stands at r exactly if b is a package with that folder, and r is none if b is none with any
abbrev pub FindsPackage : List ℕ → Option ℕ → Type 0
FindsPackage b r =
    (folder : List ℕ) → IsOneOf folder applications
    → MatchOption r (¬ IsPackageWith folder b) (λ place. OccursAt b folder place ↔ IsPackageWith folder b)

-- as far as b goes, the first entry may have the name
pub record MayHaveFirstName (name b : List ℕ) : Type 0 where
  pub short : length name ≤ 0xFFFF
  pub header : AgreesAt b zip_header 0
  pub sized : AgreesAt b (low_bytes (length name)) 26
  pub says : AgreesAt b name 30

-- or one that ends in the text, if b has the whole header
pub record MayHaveFirstEnding (text b : List ℕ) : Type 0 where
  pub header : AgreesAt b zip_header 0
  pub says : 30 ≤ length b → (length text ≤ le16 b 26) × AgreesAt b text (30 + le16 b 26 - length text)

-- or the text after its name
pub record MayHaveFirstField (text b : List ℕ) : Type 0 where
  pub header : AgreesAt b zip_header 0
  pub says : 30 ≤ length b → (length text ≤ le16 b 28) × AgreesAt b text (30 + le16 b 26)

-- or one that begins with the text
abbrev pub MayBeginFirstName : List ℕ → List ℕ → Type 0
MayBeginFirstName text b = AgreesAt b zip_header 0 × AgreesAt b text 30

-- or b begins with an entry that a package with the folder may have first
abbrev pub MayBePackage : List ℕ → List ℕ → Type 0
MayBePackage folder b =
    AgreesAt b zip_header 0
    × (AgreesAt b (codes "[Content_Types].xml") 30 ⊎ AgreesAt b (codes "_rels/") 30 ⊎ AgreesAt b (codes "docProps/") 30
    ⊎ AgreesAt b folder 30)
