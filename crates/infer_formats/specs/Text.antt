-- Plain text and its encoding.
use Rattle.std.specs.Prelude.{◌≡◌, ℕ, ◌-◌, ◌<◌, ◌≤◌, ◌⊎◌, ⊤, List, [], ◌∷◌, ◌++◌, length, codes, slice_index, Option, None, Some}
use Rattle.simdutf8.specs.Steps.{IsContinuation, least_after, most_after}
use Rattle.std.specs.Str.{IsAscii, IsUtf8}
use Rattle.memchr.specs.Find.{OccursAt}
use Rattle.infer_deep.specs.Text.{BeginsMarked}
use Rattle.infer_formats.specs.declared.text.Encoding.{Encoding}
use Rattle.infer_formats.specs.declared.text.Encoding.TheVariants.{UsAscii, Utf8, Utf16Le, Utf16Be}

-- a byte that binary data has, and text has not: 00 to 08, 0B, 0E to 1A, 1C to 1F
abbrev pub IsDataByte : ℕ → Type 0
IsDataByte x = (x ≤ 0x08) ⊎ (x ≡ 0x0B) ⊎ ((0x0E ≤ x) × (x ≤ 0x1A)) ⊎ ((0x1C ≤ x) × (x ≤ 0x1F))

-- any other byte
abbrev pub IsPlainByte : ℕ → Type 0
IsPlainByte x = ¬ IsDataByte x

-- one of the first n bytes of b has the property
abbrev pub SomeBelow : (ℕ → Type 0) → List ℕ → ℕ → Type 0
SomeBelow P b n = (k : ℕ) × (k < n) × P (slice_index b k)

-- some byte of b is one of binary data
abbrev pub IsBinary : List ℕ → Type 0
IsBinary b = SomeBelow IsDataByte b (length b)

-- a byte order mark stands at 0, or b has a byte and none of binary data
abbrev pub IsText : List ℕ → Type 0
IsText b = BeginsMarked b ⊎ ((1 ≤ length b) × (¬ IsBinary b))

-- some bytes can follow b so that the whole is well-formed UTF-8
abbrev pub BeginsUtf8 : List ℕ → Type 0
BeginsUtf8 b = (more : List ℕ) × IsUtf8 (b ++ more)

-- FF FE stands at 0; FE FF stands there
abbrev pub BeginsLittle : List ℕ → Type 0
BeginsLittle b = OccursAt b (0xFF ∷ 0xFE ∷ []) 0

abbrev pub BeginsBig : List ℕ → Type 0
BeginsBig b = OccursAt b (0xFE ∷ 0xFF ∷ []) 0

-- b is a text with this encoding
abbrev pub HasEncoding : List ℕ → Encoding → Type 0
HasEncoding b Utf16Le = BeginsLittle b
HasEncoding b Utf16Be = BeginsBig b
HasEncoding b UsAscii = IsText b × (¬ BeginsLittle b) × (¬ BeginsBig b) × IsAscii b
HasEncoding b Utf8 = IsText b × (¬ BeginsLittle b) × (¬ BeginsBig b) × (¬ IsAscii b) × BeginsUtf8 b

-- the encoding of b, and none if b is no text or its encoding is unknown
abbrev pub IsEncodingOf : List ℕ → Option Encoding → Type 0
IsEncodingOf b (Some e) = HasEncoding b e
IsEncodingOf b None = (e : Encoding) → ¬ HasEncoding b e

-- its name with IANA
abbrev pub encoding_name : Encoding → List ℕ
encoding_name UsAscii = codes "us-ascii"
encoding_name Utf8 = codes "utf-8"
encoding_name Utf16Le = codes "utf-16le"
encoding_name Utf16Be = codes "utf-16be"

-- the last n bytes of b begin a character of more bytes, which may be none
abbrev pub IsCutLen : List ℕ → ℕ → Type 0
IsCutLen b n =
    (n ≤ length b)
    × (((n ≡ 1) × (0xC0 ≤ slice_index b (length b - 1)))
    ⊎ ((n ≡ 2) × (0xE0 ≤ slice_index b (length b - 2)) × (slice_index b (length b - 1) < 0xC0))
    ⊎ ((n ≡ 3) × (0xF0 ≤ slice_index b (length b - 3)) × (slice_index b (length b - 2) < 0xE0) × (slice_index b (length b - 1) < 0xC0))
    ⊎ ((n ≡ 0) × (1 ≤ length b → slice_index b (length b - 1) < 0xC0) × (2 ≤ length b → slice_index b (length b - 2) < 0xE0)
    × (3 ≤ length b → slice_index b (length b - 3) < 0xF0)))

-- the byte y can follow x as the second of a character
abbrev pub MayFollow : ℕ → ℕ → Type 0
MayFollow x y = (0xC2 ≤ x) × (x ≤ 0xF4) × (least_after x ≤ y) × (y ≤ most_after x)

-- three bytes at most, which a character can begin with
abbrev pub MayBeginChar : List ℕ → Type 0
MayBeginChar [] = ⊤
MayBeginChar (x ∷ []) = (0xC2 ≤ x) × (x ≤ 0xF4)
MayBeginChar (x ∷ y ∷ []) = MayFollow x y
MayBeginChar (x ∷ y ∷ z ∷ []) = MayFollow x y × IsContinuation z
MayBeginChar (x ∷ y ∷ z ∷ u ∷ more) = ⊥
