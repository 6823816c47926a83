-- WebM, by the name "webm" near its start.
use Rattle.std.specs.Prelude.{◌≡◌, ◌==◌, ◌&&◌, ℕ, ◌+◌, ◌<◌, Bool, IsTrue, List, [], ◌∷◌, codes, if◌then◌else◌, length, min, nat_lt, slice_index}
use Rattle.std.specs.Fn.{iterate}
use Rattle.std.specs.Int.Count.{count_leading_zeros}
use Rattle.memchr.specs.Find.{OccursAt}

-- how many bytes state a size, by the first of them: one more than the zero bits that it begins with, and 8 at most
abbrev pub size_width : ℕ → ℕ
size_width x = min 8 (count_leading_zeros 8 x + 1)

-- the element 42 82, which names the kind of document, begins at i, and a byte of its size follows
abbrev pub begins_name : List ℕ → ℕ → Bool
begins_name b i = nat_lt (i + 2) (length b) && (slice_index b i == 0x42 && slice_index b (i + 1) == 0x82)

-- where what it contains begins, after its size
abbrev pub content : List ℕ → ℕ → ℕ
content b i = i + 2 + size_width (slice_index b (i + 2))

-- bytes 00 from i on, perhaps none, and then "webm", after which the buffer goes on
abbrev pub NamesWebm : List ℕ → ℕ → Type 0
NamesWebm b i =
    (zeros : ℕ) × ((k : ℕ) → k < zeros → slice_index b (i + k) ≡ 0) × OccursAt b (codes "webm") (i + zeros)
    × (i + zeros + 4 < length b)

-- the element at i names WebM
abbrev pub Holds : List ℕ → ℕ → Type 0
Holds b i = IsTrue (begins_name b i) × NamesWebm b (content b i)

-- the place that is looked at after i: a byte on, or a byte after where that content begins
abbrev pub next_place : List ℕ → ℕ → ℕ
next_place b i = if begins_name b i then content b i + 1 else i + 1

-- some place below 38 that is looked at from i on names WebM
abbrev pub HoldsFrom : List ℕ → ℕ → Type 0
HoldsFrom b i = (n : ℕ) × (iterate (next_place b) n i < 38) × Holds b (iterate (next_place b) n i)

-- EBML, and after its mark such a place
abbrev pub IsWebm : List ℕ → Type 0
IsWebm b = OccursAt b (0x1A ∷ 0x45 ∷ 0xDF ∷ 0xA3 ∷ []) 0 × HoldsFrom b 4
