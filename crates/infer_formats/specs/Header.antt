-- Programs of DOS whose header names the place of a later one.
use Rattle.std.specs.Prelude.{ℕ, ◌+◌, ◌≤◌, List, codes, length}
use Rattle.infer_deep.specs.Numbers.{le16, le32}
use Rattle.memchr.specs.Find.{OccursAt}

-- where the later header stands: the number in the four bytes at 60, the lowest first
abbrev pub later_place : List ℕ → ℕ
later_place b = le32 b 60

-- the header of DOS stands first, whole, and the text at the place that it names. In the two bytes so far from there is a number
-- between these two, the lowest byte first
abbrev pub HasLaterHeader : List ℕ → ℕ → ℕ → ℕ → List ℕ → Type 0
HasLaterHeader t far low high b =
    (64 ≤ length b) × OccursAt b (codes "MZ") 0 × OccursAt b t (later_place b)
    × (later_place b + far + 2 ≤ length b) × (low ≤ le16 b (later_place b + far)) × (le16 b (later_place b + far) ≤ high)
