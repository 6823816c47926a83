-- Texts by what they begin with.
use Rattle.std.specs.Prelude.{ℕ, List, ◌⊎◌}
use Rattle.memchr.specs.Find.{OccursAt}
use Rattle.infer_formats.specs.Markup.{utf8_mark}

-- the text stands first, or after a byte order mark that does
abbrev pub Begins : List ℕ → List ℕ → Type 0
Begins t b = OccursAt b t 0 ⊎ (OccursAt b utf8_mark 0 × OccursAt b t 3)

-- and the other stands somewhere
abbrev pub BeginsAndHas : List ℕ → List ℕ → List ℕ → Type 0
BeginsAndHas t u b = Begins t b × ((p : ℕ) × OccursAt b u p)

-- and three others stand somewhere, of which the last may be empty
abbrev pub BeginsAndHasAll : List ℕ → List ℕ → List ℕ → List ℕ → List ℕ → Type 0
BeginsAndHasAll t u v w b = Begins t b × ((p : ℕ) × OccursAt b u p) × ((p : ℕ) × OccursAt b v p) × ((p : ℕ) × OccursAt b w p)
