-- Built-in signatures, and which buffers they accept.
use Rattle.std.specs.Prelude.{◌≡◌, ◌↔◌, ℕ, Bool, List, IsTrue}
use Rattle.infer_sig.specs.Signature.{Alternative, accepts}
use Rattle.infer_deep.specs.Brands.{IsAvif, IsHeif}
use Rattle.infer_deep.specs.ClassId.{IsDoc, IsPpt, IsXls}
use Rattle.infer_deep.specs.Frames.{IsFramed}
use Rattle.infer_deep.specs.Office.{IsOffice}
use Rattle.infer_deep.specs.Text.{IsHtml, IsXml}
use Rattle.infer_deep.specs.Windows.{IsMatroska, IsPdf}

-- a built-in signature: bytes at fixed places, or one of the relations on whole buffers
pub data BuiltIn : Type 0 where
  fixed : List Alternative → BuiltIn
  pdf : BuiltIn
  matroska : List ℕ → BuiltIn
  framed : List ℕ → BuiltIn
  heif : BuiltIn
  avif : BuiltIn
  office : List ℕ → BuiltIn
  doc : BuiltIn
  xls : BuiltIn
  ppt : BuiltIn
  html : BuiltIn
  xml : BuiltIn

-- the signature accepts the buffer
abbrev pub IsAccepted : BuiltIn → List ℕ → Type 0
IsAccepted (fixed alternatives) b = IsTrue (accepts alternatives b)
IsAccepted pdf b = IsPdf b
IsAccepted (matroska doc_type) b = IsMatroska doc_type b
IsAccepted (framed magic) b = IsFramed magic b
IsAccepted heif b = IsHeif b
IsAccepted avif b = IsAvif b
IsAccepted (office folder) b = IsOffice folder b
IsAccepted doc b = IsDoc b
IsAccepted xls b = IsXls b
IsAccepted ppt b = IsPpt b
IsAccepted html b = IsHtml b
IsAccepted xml b = IsXml b

-- the answer tells whether the signature accepts the buffer: of a fixed one, by its parts
abbrev pub DecidesAccepted : BuiltIn → List ℕ → Bool → Type 0
DecidesAccepted (fixed alternatives) b r = r ≡ accepts alternatives b
DecidesAccepted s b r = IsTrue r ↔ IsAccepted s b
