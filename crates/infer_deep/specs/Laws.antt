-- Laws of the signatures, each group as one record.
use Rattle.std.specs.Prelude.{◌≡◌, ◌≢◌, ℕ, ◌<◌, ◌≤◌, ◌⊎◌, List, ◌∷◌, length, slice_index}
use Rattle.memchr.specs.Find.{OccursAt}
use Rattle.infer_deep.specs.Signatures.{Lasts, IsNear, AreApart, ComesWith, IsEarly}
use Rattle.infer_deep.specs.Windows.{IsPdf, IsMatroska}
use Rattle.infer_deep.specs.Frames.{BeginsFrame, IsFramed}
use Rattle.infer_deep.specs.Brands.{IsBoxed, IsOpenBox, IsHeif, IsAvif}
use Rattle.infer_deep.specs.Office.{zip_header, BeginsOffice, IsOffice}
use Rattle.infer_deep.specs.ClassId.{BeginsCompound, HasClassId, IsDoc, IsXls, IsPpt}
use Rattle.infer_deep.specs.Text.{BeginsMarked, BeginsWhite, IsWhite, IsHtml, IsXml}

-- what is accepted stays accepted in a buffer that grows
pub record Growth : Type 0 where
  pub pdf : Lasts IsPdf
  pub matroska : (doc_type : List ℕ) → Lasts (IsMatroska doc_type)
  pub framed : (magic : List ℕ) → Lasts (IsFramed magic)
  pub heif : Lasts IsHeif
  pub avif : Lasts IsAvif
  pub office : (folder : List ℕ) → Lasts (IsOffice folder)
  pub class_id : (id : List ℕ) → Lasts (HasClassId id)
  pub doc : Lasts IsDoc
  pub xls : Lasts IsXls
  pub ppt : Lasts IsPpt
  pub html : Lasts IsHtml
  pub xml : Lasts IsXml

-- the first 1024 bytes decide
pub record Near : Type 0 where
  pub pdf : IsNear IsPdf
  pub matroska : (doc_type : List ℕ) → IsNear (IsMatroska doc_type)

-- with which byte a buffer begins that is accepted
pub record Leads : Type 0 where
  pub matroska : (doc_type b : List ℕ) → IsMatroska doc_type b → slice_index b 0 ≡ 0x1A
  pub framed : (x : ℕ) (magic b : List ℕ)
      → IsFramed (x ∷ magic) b → (slice_index b 0 ≡ x) ⊎ ((0x50 ≤ slice_index b 0) × (slice_index b 0 ≤ 0x5F))
  pub office : (folder b : List ℕ) → IsOffice folder b → slice_index b 0 ≡ 0x50
  pub class_id : (id b : List ℕ) → HasClassId id b → slice_index b 0 ≡ 0xD0
  pub html : (b : List ℕ) → IsHtml b → IsWhite (slice_index b 0) ⊎ (slice_index b 0 ≡ 0x3C)
  pub xml : (b : List ℕ)
      → IsXml b
      → IsWhite (slice_index b 0)
      ⊎ (slice_index b 0 ≡ 0x3C) ⊎ (slice_index b 0 ≡ 0xEF) ⊎ (slice_index b 0 ≡ 0xFE) ⊎ (slice_index b 0 ≡ 0xFF)

-- the two words are not empty, and have different first bytes
abbrev pub BeginApart : List ℕ → List ℕ → Type 0
BeginApart v w = (0 < length v) × (0 < length w) × (slice_index v 0 ≢ slice_index w 0)

-- what no buffer is at once
pub record Apart : Type 0 where
  pub framed : (v w : List ℕ) → BeginApart v w → slice_index v 0 < 0x50 → slice_index w 0 < 0x50 → AreApart (IsFramed v) (IsFramed w)
  pub office : (v w : List ℕ) → BeginApart v w → AreApart (IsOffice v) (IsOffice w)
  pub class_id : (v w : List ℕ) (i : ℕ) → i < length v → i < length w → slice_index v i ≢ slice_index w i → AreApart (HasClassId v) (HasClassId w)
  pub doc_xls : AreApart IsDoc IsXls
  pub doc_ppt : AreApart IsDoc IsPpt
  pub xls_ppt : AreApart IsXls IsPpt
  pub compound_zip : AreApart BeginsCompound (λ b. OccursAt b zip_header 0)
  pub open_boxed : AreApart IsOpenBox IsBoxed
  pub html_xml : AreApart IsHtml IsXml

-- what more bytes can bring to a buffer of at least 1024 bytes, and how the buffer begins if they can
pub record Arrivals : Type 0 where
  pub heif : ComesWith IsHeif IsOpenBox
  pub avif : ComesWith IsAvif IsOpenBox
  pub class_id : (id : List ℕ) → ComesWith (HasClassId id) BeginsCompound
  pub office : (folder : List ℕ) → length folder ≤ 5 → ComesWith (IsOffice folder) BeginsOffice
  pub framed : (magic : List ℕ) → length magic ≤ 4 → ComesWith (IsFramed magic) BeginsFrame
  pub html : ComesWith IsHtml BeginsWhite
  pub xml : ComesWith IsXml (λ b. BeginsWhite b ⊎ BeginsMarked b)

-- so they do not bring such a beginning
pub record Beginnings : Type 0 where
  pub open_box : IsEarly IsOpenBox
  pub compound : IsEarly BeginsCompound
  pub office : IsEarly BeginsOffice
  pub frame : IsEarly BeginsFrame
  pub white : IsEarly BeginsWhite
  pub mark : IsEarly BeginsMarked
