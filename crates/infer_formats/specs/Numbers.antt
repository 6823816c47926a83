-- Numbers in the bytes of a buffer, in either order.
use Rattle.std.specs.Prelude.{ℕ, ◌+◌, ◌*◌, ◌/◌, ◌%◌, Bool, List, [], ◌∷◌, slice_index, if◌then◌else◌}
use Rattle.infer_deep.specs.Numbers.{le16, le32, be32}

-- the number in the two bytes at p, the highest first
unfoldable pub be16 : List ℕ → ℕ → ℕ
be16 b p = 256 * slice_index b p + slice_index b (p + 1)

-- the numbers in the two, four and eight bytes at p, the highest first if `big`, and else the lowest
abbrev pub number16 : Bool → List ℕ → ℕ → ℕ
number16 big b p = if big then be16 b p else le16 b p

abbrev pub number32 : Bool → List ℕ → ℕ → ℕ
number32 big b p = if big then be32 b p else le32 b p

abbrev pub number64 : Bool → List ℕ → ℕ → ℕ
number64 big b p = if big then 0x100000000 * be32 b p + be32 b (p + 4) else le32 b p + 0x100000000 * le32 b (p + 4)

-- the two bytes of a number, the lowest first
abbrev pub low_bytes : ℕ → List ℕ
low_bytes n = n % 256 ∷ n / 256 ∷ []

-- the two bytes of a number in either order
abbrev pub bytes16 : Bool → ℕ → List ℕ
bytes16 big n = if big then n / 256 ∷ n % 256 ∷ [] else low_bytes n
