-- HTML and XML, by what stands first but for white space and byte order marks.
use Rattle.std.specs.Prelude.{◌≡◌, ◌==◌, ℕ, ◌⊎◌, List, [], ◌∷◌, ◌++◌, map, Any, codes, slice_index}
use Rattle.std.specs.Char.{to_ascii_lowercase}
use Rattle.std.specs.List.{filter}
use Rattle.memchr.specs.Find.{OccursAt}
use Rattle.infer_deep.specs.Joined.{After}

-- a byte of white space
abbrev pub IsWhite : ℕ → Type 0
IsWhite b = (b ≡ 0x09) ⊎ (b ≡ 0x0A) ⊎ (b ≡ 0x0C) ⊎ (b ≡ 0x0D) ⊎ (b ≡ 0x20)

-- one such byte, as a word
abbrev pub IsSpace : List ℕ → Type 0
IsSpace word = (b : ℕ) × IsWhite b × (word ≡ b ∷ [])

-- the byte order mark of UTF-8, or one of UTF-16
abbrev pub IsMark : List ℕ → Type 0
IsMark word = (word ≡ 0xEF ∷ 0xBB ∷ 0xBF ∷ []) ⊎ (word ≡ 0xFE ∷ 0xFF ∷ []) ⊎ (word ≡ 0xFF ∷ 0xFE ∷ [])

-- b begins with a byte of white space
abbrev pub BeginsWhite : List ℕ → Type 0
BeginsWhite b = IsWhite (slice_index b 0)

-- b begins with a byte order mark
abbrev pub BeginsMarked : List ℕ → Type 0
BeginsMarked b = (mark : List ℕ) × IsMark mark × OccursAt b mark 0

-- the two texts differ in the case of ASCII letters at most
abbrev pub IsSameInAnyCase : List ℕ → List ℕ → Type 0
IsSameInAnyCase v w = map to_ascii_lowercase v ≡ map to_ascii_lowercase w

-- b is the text in any ASCII case, and then anything
pub record BeginsInAnyCase (text b : List ℕ) : Type 0 where
  pub word : List ℕ
  pub rest : List ℕ
  pub same : IsSameInAnyCase word text
  pub whole : b ≡ word ++ rest

-- b is the tag in any ASCII case, then a space or ">", and then anything
pub record BeginsWithTag (tag b : List ℕ) : Type 0 where
  pub word : List ℕ
  pub end : ℕ
  pub rest : List ℕ
  pub same : IsSameInAnyCase word tag
  pub closes : (end ≡ 0x20) ⊎ (end ≡ 0x3E)
  pub whole : b ≡ word ++ end ∷ rest

-- the 17 tags by which HTML is recognised
abbrev pub tags : List (List ℕ)
tags =
    codes "<!DOCTYPE HTML" ∷ codes "<HTML" ∷ codes "<HEAD" ∷ codes "<SCRIPT" ∷ codes "<IFRAME" ∷ codes "<H1"
    ∷ codes "<DIV" ∷ codes "<FONT" ∷ codes "<TABLE" ∷ codes "<A" ∷ codes "<STYLE" ∷ codes "<TITLE" ∷ codes "<B"
    ∷ codes "<BODY" ∷ codes "<BR" ∷ codes "<P" ∷ codes "<!--" ∷ []

-- the tags whose second byte is c in lower case
unfoldable pub tags_with : ℕ → List (List ℕ)
tags_with c = filter (λ tag. to_ascii_lowercase (slice_index tag 1) == c) tags

-- b is some white space, perhaps none, and then one of the tags
abbrev pub IsHtml : List ℕ → Type 0
IsHtml b = After IsSpace (λ text. Any (λ tag. BeginsWithTag tag text) tags) b

-- b is some white space, then some marks, perhaps none of either, and then "<?xml" in any ASCII case
abbrev pub IsXml : List ℕ → Type 0
IsXml b = After IsSpace (After IsMark (BeginsInAnyCase (codes "<?xml"))) b
