-- The numbers that bytes of a buffer write.
use Rattle.std.specs.Prelude.{ℕ, ◌+◌, ◌*◌, List, slice_index}

-- the number in the two bytes at p, the lowest first
unfoldable pub le16 : List ℕ → ℕ → ℕ
le16 b p = slice_index b p + 256 * slice_index b (p + 1)

-- the number in the four bytes at p, the lowest first
unfoldable pub le32 : List ℕ → ℕ → ℕ
le32 b p = slice_index b p + 256 * slice_index b (p + 1) + 65536 * slice_index b (p + 2) + 16777216 * slice_index b (p + 3)

-- the number in the four bytes at p, the highest first
unfoldable pub be32 : List ℕ → ℕ → ℕ
be32 b p = 16777216 * slice_index b p + 65536 * slice_index b (p + 1) + 256 * slice_index b (p + 2) + slice_index b (p + 3)
