-- What stands after an ID3v2 tag.
use Rattle.std.specs.Prelude.{ℕ, ◌+◌, ◌*◌, ◌<◌, List, codes, slice_index}
use Rattle.memchr.specs.Find.{OccursAt}

-- a byte of a synchsafe number, of which the highest bit is clear
abbrev pub IsSynchsafe : ℕ → Type 0
IsSynchsafe x = x < 0x80

-- the size of the tag after its header: the four bytes at 6, seven bits each, the highest first
abbrev pub tag_size : List ℕ → ℕ
tag_size b = 0x80 * (0x80 * (0x80 * slice_index b 6 + slice_index b 7) + slice_index b 8) + slice_index b 9

-- a tag stands first, whose size is a synchsafe number, and right after it the text
abbrev pub IsAfterId3 : List ℕ → List ℕ → Type 0
IsAfterId3 t b =
    OccursAt b (codes "ID3") 0
    × (IsSynchsafe (slice_index b 6) × IsSynchsafe (slice_index b 7) × IsSynchsafe (slice_index b 8) × IsSynchsafe (slice_index b 9))
    × OccursAt b t (10 + tag_size b)
