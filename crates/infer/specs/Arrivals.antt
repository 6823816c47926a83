-- What more bytes can bring to a buffer of at least 1024 bytes.
use Rattle.std.specs.Prelude.{◌≡◌, ◌<◌, ◌≤◌, ◌⊎◌, ℕ, List, ◌++◌, length}
use Rattle.infer_deep.specs.Brands.{IsOpenBox}
use Rattle.infer_deep.specs.ClassId.{BeginsCompound}
use Rattle.infer_deep.specs.Frames.{BeginsFrame}
use Rattle.infer_deep.specs.Office.{BeginsOffice}
use Rattle.infer_deep.specs.Text.{BeginsMarked, BeginsWhite}
use Rattle.infer.specs.BuiltIn.{BuiltIn, fixed, avif, doc, framed, heif, html, matroska, office, pdf, ppt, xls, xml, IsAccepted}
use Rattle.infer.specs.Table.{signature_of}
use Rattle.infer.specs.declared.beginnings.Beginning.{Beginning}
use Rattle.infer.specs.declared.beginnings.Beginning.TheVariants.{OpenBox, Compound, Archive, Frame, White, Mark}
use Rattle.infer.specs.declared.table.rows.TheConstants.{AVIF, LZ4, PPT, PPTX, ROW_COUNT, XML}

-- the buffer begins in this way, after which more bytes can bring a row
abbrev pub Begins : Beginning → List ℕ → Type 0
Begins OpenBox b = IsOpenBox b
Begins Compound b = BeginsCompound b
Begins Archive b = BeginsOffice b
Begins Frame b = BeginsFrame b
Begins White b = BeginsWhite b
Begins Mark b = BeginsMarked b

-- b begins so and in no other of these ways
abbrev pub BeginsAlone : Beginning → List ℕ → Type 0
BeginsAlone how b = Begins how b × ((other : Beginning) → Begins other b → other ≡ how)

-- the number of the last row that can come after it
abbrev pub last_after : Beginning → ℕ
last_after OpenBox = AVIF
last_after Compound = PPT
last_after Archive = PPTX
last_after Frame = LZ4
last_after White = XML
last_after Mark = XML

-- how a buffer begins to which more bytes can bring the signature
abbrev pub IsAwaited : BuiltIn → List ℕ → Type 0
IsAwaited (fixed alternatives) b = ⊥
IsAwaited pdf b = ⊥
IsAwaited (matroska doc_type) b = ⊥
IsAwaited (framed magic) b = Begins Frame b
IsAwaited heif b = Begins OpenBox b
IsAwaited avif b = Begins OpenBox b
IsAwaited (office folder) b = Begins Archive b
IsAwaited doc b = Begins Compound b
IsAwaited xls b = Begins Compound b
IsAwaited ppt b = Begins Compound b
IsAwaited html b = Begins White b
IsAwaited xml b = Begins White b ⊎ Begins Mark b

-- the number of the last row that is awaited so
abbrev pub last_awaited : BuiltIn → ℕ
last_awaited (fixed alternatives) = 0
last_awaited pdf = 0
last_awaited (matroska doc_type) = 0
last_awaited (framed magic) = last_after Frame
last_awaited heif = last_after OpenBox
last_awaited avif = last_after OpenBox
last_awaited (office folder) = last_after Archive
last_awaited doc = last_after Compound
last_awaited xls = last_after Compound
last_awaited ppt = last_after Compound
last_awaited html = last_after White
last_awaited xml = last_after Mark

-- row i is awaited, and none of the rows after it up to the last that is awaited so accepts the buffer before and with
-- the bytes that follow
pub record Comes (i : ℕ) (b more : List ℕ) : Type 0 where
  pub awaited : IsAwaited (signature_of i) b
  pub alone : (k : ℕ) → i < k → k ≤ last_awaited (signature_of i)
      → IsAccepted (signature_of k) b → ¬ IsAccepted (signature_of k) (b ++ more)

-- so is each row that accepts a buffer only with the bytes that follow its first 1024 or more
abbrev pub NewcomersAreAwaited : Type 0
NewcomersAreAwaited =
    (b more : List ℕ) → 1024 ≤ length b → (i : ℕ) → i < ROW_COUNT
    → IsAccepted (signature_of i) (b ++ more) → (¬ IsAccepted (signature_of i) b) → Comes i b more
