-- A row of a table of the standard: what it asks of a buffer.
use Rattle.std.specs.Prelude.{◌≡◌, ℕ, ◌<◌, ◌≤◌, ◌⊎◌, Bool, true, false, List, IsTrue, bit_and, length, slice_index, slice_index_or}
use Rattle.infer_deep.specs.Joined.{After, NoneBegins}
use Rattle.infer_deep.specs.Text.{IsSpace}

-- a pattern, its mask, whether white space in front of it is ignored, and whether a byte that ends a tag follows it
pub record Pattern : Type 0 where
  pub bytes : List ℕ
  pub mask : List ℕ
  pub ignores_white : Bool
  pub ends_tag : Bool

-- which bits of byte i the mask asks: all of them past its end
abbrev pub mask_at : List ℕ → ℕ → ℕ
mask_at mask i = slice_index_or mask i 0xFF

-- a space or ">" stands at p
abbrev pub EndsTag : List ℕ → ℕ → Type 0
EndsTag b p = (p < length b) × ((slice_index b p ≡ 0x20) ⊎ (slice_index b p ≡ 0x3E))

-- the text has the pattern's bytes, as far as the mask has bits
abbrev pub HasBits : Pattern → List ℕ → Type 0
HasBits pattern text =
    (i : ℕ) → i < length pattern.bytes → bit_and (slice_index text i) (mask_at pattern.mask i) ≡ slice_index pattern.bytes i

-- the text begins with the pattern, as far as the mask has bits, and a byte that ends a tag follows if that is asked
pub record Fits (pattern : Pattern) (text : List ℕ) : Type 0 where
  pub long : length pattern.bytes ≤ length text
  pub same : HasBits pattern text
  pub ends : IsTrue pattern.ends_tag → EndsTag text (length pattern.bytes)

-- b is what is ignored, white space or nothing, and then a text that fits the pattern and begins with no more of it
abbrev pub FitsAfter : Bool → Pattern → List ℕ → Type 0
FitsAfter true pattern b = After IsSpace (λ text. NoneBegins IsSpace text × Fits pattern text) b
FitsAfter false pattern b = Fits pattern b

abbrev pub AcceptsFixed : Pattern → List ℕ → Type 0
AcceptsFixed pattern b = FitsAfter pattern.ignores_white pattern b
