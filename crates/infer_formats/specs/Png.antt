-- PNG images, by their chunks.
use Rattle.std.specs.Prelude.{ℕ, ◌+◌, ◌≤◌, List, [], ◌∷◌, length, codes}
use Rattle.memchr.specs.Find.{OccursAt}
use Rattle.infer_deep.specs.Numbers.{be32}

-- what a PNG image begins with
abbrev pub png_header : List ℕ
png_header = 0x89 ∷ 0x50 ∷ 0x4E ∷ 0x47 ∷ []

-- the chunk at c has the type "acTL"; or it hasn't the type "IDAT", and one after it, reached by its length, has
-- "acTL" before any has "IDAT"
pub data IsAnimatedFrom (b : List ℕ) : ℕ → Type 0 where
  here : (c : ℕ) → OccursAt b (codes "acTL") (c + 4) → IsAnimatedFrom b c
  later : (c : ℕ) → c + 8 ≤ length b → (OccursAt b (codes "IDAT") (c + 4) → ⊥) → IsAnimatedFrom b (c + 12 + be32 b c) → IsAnimatedFrom b c

-- the first chunk is at 8
abbrev pub IsAnimated : List ℕ → Type 0
IsAnimated b = IsAnimatedFrom b 8
